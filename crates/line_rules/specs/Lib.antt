pub mod Patterns
pub mod Listed
pub mod Times
pub mod Rules
pub mod Needles
pub mod Files
pub mod Building
pub mod Views
