pub mod Hunts
