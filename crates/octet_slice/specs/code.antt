pub mod Cursors
pub mod Reached
pub mod Advancing
pub mod Cutting
