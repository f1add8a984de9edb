pub mod Edges
pub mod Steps
