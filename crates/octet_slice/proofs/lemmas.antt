pub mod FirstEvents
pub mod SameNext
pub mod Alone
