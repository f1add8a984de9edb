pub mod Other
pub mod Told
