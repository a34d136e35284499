pub mod Numbers
pub mod Ascending
pub mod Shapes
