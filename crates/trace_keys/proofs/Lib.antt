pub mod Positions
pub mod Apart
pub mod Keys
pub mod KeyLists
pub mod Numbers
pub mod Told
