pub mod Packing
pub mod Places
pub mod Accesses
pub mod Widths
pub mod ValidLogs
pub mod Laws
pub mod OpenMarks
