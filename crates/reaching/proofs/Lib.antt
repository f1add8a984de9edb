pub mod Undoing
pub mod Starting
pub mod Reached
pub mod Unique
pub mod Between
