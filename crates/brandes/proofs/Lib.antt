pub mod Folds
pub mod Passing
pub mod Accumulating
pub mod Starts
pub mod Releasing
pub mod Deltas
