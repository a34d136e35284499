pub mod Merges
pub mod Reaching
pub mod Labels
pub mod Models
pub mod Ends
pub mod Room
pub mod Small
