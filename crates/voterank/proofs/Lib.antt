pub mod Polling
pub mod Closing
pub mod Order
pub mod Rule
pub mod Unique
