pub mod lemmas
mod Asking
mod Stepping
mod Judging
mod ThreadSets
mod Placing
mod Tracing
