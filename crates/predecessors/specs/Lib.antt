pub mod Order
pub mod Tracks
