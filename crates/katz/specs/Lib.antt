pub mod Katz
pub mod Steps
