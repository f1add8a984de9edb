pub mod Suffices
pub mod Fronts
pub mod Lengths
pub mod Workspace
