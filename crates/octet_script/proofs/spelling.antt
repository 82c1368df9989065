pub mod Spelled
pub mod Canonical
pub mod Printed
pub mod Keywords
pub mod Numbers
pub mod Cut
pub mod Declared
