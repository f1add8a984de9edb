pub mod Betweenness
pub mod Writes
