pub mod Measures
pub mod Values
pub mod Tops
