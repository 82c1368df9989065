pub mod Checking
pub mod Conflicts
pub mod JournalsAlone
pub mod Noting
pub mod SharedObjects
pub mod Taking
pub mod Verifying
pub mod Within
