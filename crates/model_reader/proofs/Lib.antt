pub mod Numbers
pub mod Listing
pub mod Escapes
pub mod Objects
pub mod Tails
pub mod Answered
