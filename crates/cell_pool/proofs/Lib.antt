pub mod Done
pub mod Linked
pub mod Listed
pub mod Moving
pub mod Splicing
pub mod Starting
