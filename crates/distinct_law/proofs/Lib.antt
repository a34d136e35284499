pub mod Alike
pub mod SameWords
pub mod Wholes
pub mod Leading
pub mod Sums
pub mod Counted
pub mod Models
pub mod Ends
