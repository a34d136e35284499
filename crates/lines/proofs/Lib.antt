pub mod Cuts
pub mod Fields
pub mod Joins
pub mod Spaces
pub mod Ahead
