pub mod Bits
pub mod Rows
pub mod Events
pub mod Sooner
pub mod Traces
pub mod Lists
pub mod Rests
