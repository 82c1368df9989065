pub mod Adding
pub mod Written
pub mod Feeds
pub mod Left
