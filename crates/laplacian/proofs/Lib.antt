pub mod Sums
pub mod Steps
pub mod Ending
pub mod Unique
pub mod Whole
pub mod Exact
