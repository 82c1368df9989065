pub mod Gather
pub mod Holders
pub mod Bounds
pub mod Earlier
pub mod Chooser
pub mod Walk
