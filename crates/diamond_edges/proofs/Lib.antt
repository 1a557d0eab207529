pub mod Ends
pub mod Marks
pub mod Opens
pub mod Walks
