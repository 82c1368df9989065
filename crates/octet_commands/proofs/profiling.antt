pub mod Counted
pub mod FirstSteps
