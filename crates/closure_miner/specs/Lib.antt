pub mod Rows
pub mod Sets
pub mod Standing
pub mod Wide
