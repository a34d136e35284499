pub mod Counted
pub mod Found
pub mod KeptTexts
pub mod Noted
pub mod Placing
pub mod Rest
pub mod Stepped
pub mod Traced
