pub mod Bytes
pub mod Text
pub mod Written
