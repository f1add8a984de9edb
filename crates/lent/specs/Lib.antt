pub mod Said
pub mod Slots
