pub mod Beginning
pub mod Leaving
pub mod Making
pub mod Passing
