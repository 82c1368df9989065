pub mod Leaving
pub mod Connecting
pub mod ThreadLogs
