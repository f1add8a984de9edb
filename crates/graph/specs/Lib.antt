pub mod Edges
pub mod Given
pub mod Fronts
pub mod Checks
pub mod Refusals
pub mod Pres
pub mod Left
pub mod Layout
