pub mod lemmas
pub mod Drained
