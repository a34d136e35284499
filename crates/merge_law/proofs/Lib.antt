pub mod Danger
pub mod Walks
pub mod Standing
pub mod Loses
pub mod Union
pub mod Rules
