pub mod First
pub mod Refused
pub mod Keeping
