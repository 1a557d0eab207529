pub mod Answers
pub mod Descent
pub mod Handles
pub mod Plays
pub mod Rounds
pub mod Rule
pub mod Told
pub mod Words
