pub mod Models
pub mod Checks
pub mod Histories
pub mod Limits
pub mod Laws
