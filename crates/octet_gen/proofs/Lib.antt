pub mod lemmas
mod Sequence
mod Names
mod Valid
mod Rounds
