pub mod Searching
pub mod Ending
pub mod Unique
pub mod Demand
