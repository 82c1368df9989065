pub mod Seats
pub mod Rows
pub mod Cells
pub mod Runs
