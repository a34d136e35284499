pub mod Critical
pub mod Laws
