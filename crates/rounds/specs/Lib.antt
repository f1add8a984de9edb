pub mod Rounds
pub mod Runs
pub mod Says
pub mod Tests
pub mod Ending
pub mod Vectors
pub mod Steps
