pub mod Said
pub mod Unique
pub mod Decimals
