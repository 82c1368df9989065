pub mod tasks
pub mod live_log
pub mod runners
