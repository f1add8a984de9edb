pub mod Scored
pub mod Pres
