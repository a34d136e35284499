pub mod Lists
pub mod Paths
pub mod Reports
pub mod Steps
