pub mod lemmas
mod steps
mod seats
mod players
mod verdicts
mod solo
mod uses
