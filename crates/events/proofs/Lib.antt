pub mod Numbering
pub mod Locating
pub mod Collecting
pub mod Ordering
pub mod Lines
