pub mod FirstEvents
pub mod Laws
pub mod Gathering
pub mod Slice
pub mod Replaying
pub mod FirstMatch
pub mod code
