pub mod EachTurn
pub mod End
pub mod Journals
pub mod ManyTurns
pub mod Opening
pub mod Rests
