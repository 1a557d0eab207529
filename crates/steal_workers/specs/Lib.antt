pub mod Dealing
pub mod Laws
pub mod Tasks
pub mod Workers
