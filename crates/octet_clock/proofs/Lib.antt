pub mod lemmas
mod pasts
mod plays
mod checks
