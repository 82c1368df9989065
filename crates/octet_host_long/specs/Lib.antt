pub mod Tailed
pub mod Threads
pub mod Streams
pub mod Opened
pub mod Closed
pub mod HandedBack
pub mod Theirs
