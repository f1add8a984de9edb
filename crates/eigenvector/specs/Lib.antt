pub mod Eigenvector
pub mod Steps
