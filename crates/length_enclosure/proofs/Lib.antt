pub mod Amounts
pub mod Digits
pub mod Edges
pub mod Enclosures
pub mod Peaks
pub mod Signs
pub mod UnitTexts
