pub mod Voiced
