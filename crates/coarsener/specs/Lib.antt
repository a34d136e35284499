pub mod Pairs
pub mod Deciding
pub mod Blocking
pub mod Marking
pub mod Telling
pub mod Fitting
