pub mod Steps
pub mod Reader
