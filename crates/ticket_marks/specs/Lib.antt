pub mod Answers
pub mod Finish
pub mod Handles
pub mod Plays
pub mod Rule
pub mod Told
pub mod Words
