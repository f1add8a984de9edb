pub mod EdgesEnding
pub mod Unique
