pub mod Edges
pub mod Checks
pub mod Refusals
pub mod Left
pub mod Regions
