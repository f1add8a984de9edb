pub mod Numbering
pub mod Crossing
pub mod Pairing
pub mod Totalling
