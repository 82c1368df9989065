pub mod Stepping
pub mod Recorded
pub mod Followers
pub mod Repeating
