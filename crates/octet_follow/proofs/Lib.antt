pub mod lemmas
mod steps
mod seats
mod Following
mod Starting
mod Recordings
mod Closing
mod Faithful
mod Demands
mod Blocks
mod Promise
