pub mod Seats
pub mod Rows
pub mod Spread
pub mod Cells
pub mod Runs
pub mod Telling
pub mod Seeing
