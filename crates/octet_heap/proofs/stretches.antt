pub mod Stretches
pub mod Exchanges
pub mod Pursuits
pub mod Loads
pub mod MadeAtOnce
