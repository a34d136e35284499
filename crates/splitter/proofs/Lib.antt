pub mod Following
pub mod RefiningTurns
pub mod Mining
pub mod WritingTurns
pub mod Asking
