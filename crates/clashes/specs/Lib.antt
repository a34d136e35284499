pub mod Marks
pub mod Rules
pub mod Layout
pub mod Changes
pub mod Growing
pub mod Laws
