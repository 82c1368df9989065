pub mod Tracing
pub mod Matches
pub mod TraceSteps
pub mod Told
pub mod Hunted
pub mod Endings
