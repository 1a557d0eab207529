pub mod Number
pub mod Amount
pub mod Enclosure
pub mod Units
