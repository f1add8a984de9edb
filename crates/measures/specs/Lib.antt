pub mod Scored
