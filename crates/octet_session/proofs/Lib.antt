pub mod Asked
pub mod Gained
pub mod lemmas
