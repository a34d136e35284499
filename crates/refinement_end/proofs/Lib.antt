pub mod Searching
pub mod Violations
pub mod NextSplits
pub mod WholeRuns
