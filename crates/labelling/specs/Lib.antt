pub mod Carried
pub mod Found
pub mod Labelled
pub mod Layout
pub mod PhaseRows
pub mod Phases
pub mod Rounds
