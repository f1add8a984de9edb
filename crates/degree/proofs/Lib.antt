pub mod Exact
pub mod Counting
pub mod Pairs
pub mod Ending
pub mod Unique
pub mod Whole
