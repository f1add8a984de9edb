pub mod Sequences
pub mod Lengths
pub mod Example
