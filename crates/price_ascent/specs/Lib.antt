pub mod Ascent
pub mod Belonging
pub mod Entries
pub mod OneAscent
pub mod Raised
pub mod Steps
pub mod Sums
pub mod Swept
