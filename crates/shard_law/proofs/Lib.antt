pub mod Lists
pub mod Showing
pub mod Joining
pub mod Numbering
