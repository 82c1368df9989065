pub mod Tellers
pub mod Reports
