pub mod Located
pub mod Undecided
pub mod Takers
pub mod Reading
pub mod Laws
