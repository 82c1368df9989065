pub mod Loops
pub mod Marks
pub mod Threads
pub mod Whole
pub mod Spellings
pub mod Cuts
pub mod Refused
