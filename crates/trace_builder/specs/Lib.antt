pub mod Limits
pub mod Room
pub mod PlaceMaps
pub mod Slots
pub mod Placed
