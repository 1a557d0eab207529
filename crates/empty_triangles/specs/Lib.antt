pub mod Corners
pub mod Enumeration
pub mod Rays
