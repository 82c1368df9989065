pub mod Written
pub mod Feeds
pub mod Drained
pub mod Laws
