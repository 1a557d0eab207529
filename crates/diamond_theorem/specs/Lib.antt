pub mod Discs
pub mod Fans
pub mod Laws
pub mod Sleeves
pub mod Steps
pub mod Walks
