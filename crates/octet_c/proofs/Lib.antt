pub mod Handles
pub mod Pairs
pub mod Ended
pub mod Taken
pub mod Leaving
pub mod Windowing
pub mod Making
