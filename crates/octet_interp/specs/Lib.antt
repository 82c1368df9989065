pub mod Regions
pub mod Leads
pub mod Demands
pub mod Context
pub mod Laws
pub mod Following
pub mod Standing
