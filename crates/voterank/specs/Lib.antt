pub mod VoteRank
pub mod Elections
