pub mod Standing
pub mod Asking
pub mod Recording
pub mod Again
