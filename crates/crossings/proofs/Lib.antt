pub mod Across
pub mod Crossing
pub mod Passing
