pub mod Reading
pub mod Weights
pub mod Jobs
pub mod Example
