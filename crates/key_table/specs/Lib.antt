pub mod Placed
pub mod Laws
