pub mod Tables
pub mod Written
