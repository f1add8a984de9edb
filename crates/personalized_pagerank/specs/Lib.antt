pub mod Personalized
pub mod Steps
