pub mod CellTraces
pub mod Lasts
pub mod Edges
pub mod UnusedIds
pub mod WordCells
pub mod Counting
pub mod Gathered
pub mod Moving
pub mod Marking
pub mod NextOnes
pub mod NeighbourWords
pub mod Places
pub mod Linked
pub mod Around
pub mod Retyping
pub mod Joined
pub mod JoinedEdges
pub mod Rows
pub mod Starting
pub mod Members
pub mod Walks
pub mod Sorting
pub mod Dividing
pub mod Copied
pub mod Sharing
pub mod Begun
pub mod Looking
pub mod SetCounts
pub mod CountSteps
mod DividingBefore
mod Listed
mod CountedTraces
mod CountedWords
pub mod Filling
