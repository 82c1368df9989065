pub mod Following
pub mod Forward
pub mod LowestPlays
pub mod Walk
pub mod WalksAlone
pub mod WholePlay
