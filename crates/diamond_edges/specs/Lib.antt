pub mod Enumeration
pub mod Rows
