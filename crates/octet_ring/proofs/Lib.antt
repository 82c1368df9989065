pub mod lemmas
mod Opened
mod Placed
