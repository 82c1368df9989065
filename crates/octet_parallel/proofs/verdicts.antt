pub mod Concluding
pub mod Verdicts
pub mod Tracks
