pub mod Lawful
pub mod Keeping
pub mod Allowed
pub mod Kept
pub mod MayMark
pub mod Needing
pub mod Telling
