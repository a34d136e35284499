pub mod Verdicts
pub mod States
pub mod Rows
pub mod Pairs
pub mod Successors
pub mod Columns
