pub mod Noted
pub mod Rows
pub mod Sealing
pub mod Taking
pub mod Values
