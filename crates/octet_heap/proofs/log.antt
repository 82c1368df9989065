pub mod Logged
pub mod Entries
pub mod Joins
