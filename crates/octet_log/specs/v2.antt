pub mod Short
pub mod Pieces
pub mod Decoding
pub mod Laws
pub mod Refusals
