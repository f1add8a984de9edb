pub mod Personal
pub mod Reader
