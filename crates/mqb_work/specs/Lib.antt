pub mod Exits
pub mod Words
pub mod Lines
pub mod Causes
pub mod Turns
pub mod Works
