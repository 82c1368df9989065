pub mod Doing
pub mod Polling
pub mod Growing
pub mod Journals
pub mod Fuel
