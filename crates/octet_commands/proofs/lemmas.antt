pub mod Rows
pub mod Found
pub mod Steps
pub mod Recorded
pub mod Lengths
pub mod Checking
pub mod Holding
pub mod Chains
