pub mod Digests
pub mod Changes
pub mod Beginnings
