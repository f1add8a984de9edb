pub mod Entering
pub mod Gap
pub mod Pairing
pub mod Runs
pub mod Tours
