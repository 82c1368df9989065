pub mod lemmas
pub mod Keeping
pub mod Beginning
pub mod Stillness
