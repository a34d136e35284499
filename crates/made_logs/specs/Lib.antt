pub mod MadeLogs
pub mod TextInputs
