pub mod Histories
pub mod Pieces
