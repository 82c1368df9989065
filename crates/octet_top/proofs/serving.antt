pub mod Causes
pub mod Due
pub mod Effects
pub mod Promises
pub mod Searches
pub mod PairPromises
