pub mod Chains
pub mod Numbers
pub mod Rooms
pub mod RunLists
pub mod Tables
