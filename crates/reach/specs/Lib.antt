pub mod Reach
pub mod Search
