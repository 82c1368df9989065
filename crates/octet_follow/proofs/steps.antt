pub mod Keeping
pub mod Lawful
pub mod Kept
pub mod Allowed
