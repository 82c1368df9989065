pub mod AtRest
pub mod ByPhase
pub mod OfRun
pub mod SameDemand
