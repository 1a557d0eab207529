pub mod Draws
pub mod Edges
pub mod Frames
pub mod Picture
