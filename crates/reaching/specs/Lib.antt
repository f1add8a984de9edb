pub mod Reaching
pub mod Starts
