pub mod Items
pub mod Writing
pub mod Reading
pub mod Files
pub mod Laws
