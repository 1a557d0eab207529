pub mod Apart
pub mod Keeping
pub mod Members
pub mod Packed
pub mod Seating
pub mod Sides
pub mod Supports
pub mod Totals
