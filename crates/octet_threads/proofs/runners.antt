pub mod Opening
pub mod Places
pub mod Ending
pub mod Props
