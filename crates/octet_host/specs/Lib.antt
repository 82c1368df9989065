pub mod Stages
pub mod Calls
pub mod Copies
pub mod HandedBack
pub mod Sealed
