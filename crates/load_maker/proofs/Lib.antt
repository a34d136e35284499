pub mod Drawn
pub mod InOrder
