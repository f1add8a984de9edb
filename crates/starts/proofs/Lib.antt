pub mod Starting
pub mod Following
pub mod Adding
pub mod Indexing
pub mod Preparing
pub mod Wiping
