pub mod Runs
pub mod Ends
pub mod Workbenches
pub mod Laws
pub mod Windows
pub mod Portions
pub mod Vacuous
