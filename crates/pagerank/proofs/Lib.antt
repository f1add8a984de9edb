pub mod Nodes
pub mod Ending
pub mod Reader
