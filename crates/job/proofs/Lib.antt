pub mod Texts
pub mod Suffices
pub mod Unique
pub mod Workspace
