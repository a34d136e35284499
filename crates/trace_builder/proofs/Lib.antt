pub mod PlaceMaps
pub mod TextsTold
pub mod Places
