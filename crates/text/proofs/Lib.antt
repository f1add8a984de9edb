pub mod Numbers
pub mod Words
pub mod Stores
pub mod Numerals
pub mod RoundTrips
pub mod Example
