pub mod Parts
pub mod Left
pub mod LiveFiles
pub mod LiveMade
pub mod Cut
