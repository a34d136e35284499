pub mod Passing
pub mod Turning
pub mod Marking
pub mod Finding
pub mod Growing
pub mod Telling
pub mod Words
