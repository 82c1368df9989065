pub mod Programs
pub mod Tracks
pub mod Polls
pub mod Recordings
