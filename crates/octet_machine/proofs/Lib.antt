mod memory_steps
mod next_steps
pub mod recording
mod running
mod SameCommands
