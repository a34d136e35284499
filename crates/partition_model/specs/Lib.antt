pub mod Graphs
pub mod Assignments
pub mod Labels
pub mod Refinement
pub mod Coarsening
pub mod Laws
pub mod Listings
