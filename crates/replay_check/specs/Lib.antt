pub mod Laid
pub mod Sharing
pub mod Shown
pub mod Answers
