pub mod Entries
pub mod Placing
pub mod Reading
pub mod Shares
pub mod Building
