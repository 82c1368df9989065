pub mod lemmas
mod Marks
mod Growing
mod Passing
mod Settling
mod PastFound
mod LawfulJournals
mod Traced
mod Seeking
mod Summing
mod SliceFound
