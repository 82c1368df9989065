pub mod lemmas
mod judging
mod spelling
pub mod Numbered
