pub mod Bits
pub mod Keeping
pub mod Seats
pub mod Supports
