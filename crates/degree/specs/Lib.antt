pub mod Degree
pub mod Tally
