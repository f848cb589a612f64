pub mod Attributes
pub mod Dates
pub mod Fields
pub mod Kinds
pub mod Lengths
pub mod Stamps
