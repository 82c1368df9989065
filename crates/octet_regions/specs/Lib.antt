pub mod Accesses
pub mod Before
pub mod Choice
pub mod Runs
pub mod Laws
pub mod code
