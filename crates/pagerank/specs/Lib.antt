pub mod PageRank
pub mod Steps
