pub mod Refining
pub mod Writing
