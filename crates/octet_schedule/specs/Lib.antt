pub mod Draws
pub mod Ready
pub mod Ways
pub mod Schedules
