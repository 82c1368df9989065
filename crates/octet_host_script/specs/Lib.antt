pub mod Spelled
pub mod Faults
pub mod Refusals
pub mod Records
pub mod Threads
pub mod Opened
pub mod HandedBack
pub mod Theirs
