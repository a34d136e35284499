pub mod Apart
pub mod Bitwise
pub mod Blocks
pub mod Done
pub mod Next
pub mod Tabled
pub mod Writing
