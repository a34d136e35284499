pub mod Laying
pub mod Showing
pub mod Steps
pub mod Same
pub mod Starting
pub mod Counting
pub mod Marking
pub mod Stitched
pub mod Known
pub mod Following
pub mod Alike
pub mod Noting
mod Placing
mod Spreading
