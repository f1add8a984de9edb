pub mod Betweenness
pub mod Eigenvector
pub mod Katz
pub mod Other
pub mod PageRank
pub mod Roots
pub mod Survey
pub mod Table
