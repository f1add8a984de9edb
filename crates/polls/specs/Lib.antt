pub mod Votes
pub mod Steps
