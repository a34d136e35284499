pub mod Keys
pub mod Fingerprints
pub mod KeyLists
