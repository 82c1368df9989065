pub mod Tasks
pub mod Carrying
pub mod Rests
pub mod Runners
pub mod Work
pub mod Opened
