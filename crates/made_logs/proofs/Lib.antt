pub mod PlainLines
pub mod Sessions
pub mod Taken
pub mod Keys
