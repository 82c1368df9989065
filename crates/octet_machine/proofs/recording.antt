pub mod AccessCounts
pub mod Ends
