pub mod Matching
pub mod Runs
pub mod Valid
pub mod Agreement
pub mod Journaled
pub mod RegionsRun
pub mod Followed
