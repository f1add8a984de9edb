pub mod Rules
pub mod Edges
pub mod Job
