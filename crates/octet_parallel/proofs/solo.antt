pub mod Named
pub mod Heaps
pub mod Making
pub mod Growing
pub mod Together
pub mod Fronts
pub mod Solo
