pub mod Scaling
pub mod Ending
pub mod Unique
