pub mod Splitting
pub mod LaidOut
pub mod Spread
pub mod Ending
