pub mod Rest
pub mod Placed
pub mod Kept
