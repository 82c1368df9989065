pub mod Memory
pub mod Machine
pub mod Running
pub mod Run
pub mod Laws
pub mod Turns
