pub mod Turns
pub mod Giving
pub mod Weights
pub mod Rounds
pub mod Ending
pub mod Changes
pub mod Settled
