pub mod Totals
pub mod Crossings
