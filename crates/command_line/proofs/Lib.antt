pub mod Taken
pub mod Same
mod Digits
mod Rows
pub mod Numbered
pub mod Interrupted
pub mod Answered
