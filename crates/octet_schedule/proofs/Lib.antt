mod Marking
mod Picking
mod Readiness
