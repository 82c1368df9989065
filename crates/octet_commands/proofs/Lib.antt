pub mod lemmas
mod answering
mod profiling
mod reading
mod writing
