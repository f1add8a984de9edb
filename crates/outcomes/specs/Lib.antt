pub mod Texts
pub mod Lent
pub mod Pres
