pub mod Splitting
pub mod LaidOut
pub mod Spread
pub mod Beginning
pub mod Ending
