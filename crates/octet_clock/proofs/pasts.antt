pub mod Edges
pub mod KeptMarks
pub mod Known
pub mod Taken
