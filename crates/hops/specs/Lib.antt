pub mod Sum
pub mod Hops
pub mod Search
