pub mod Fields
pub mod Root
pub mod Absolute
pub mod Maximum
