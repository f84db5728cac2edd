pub mod Table
pub mod Values
pub mod Calls
pub mod Words
pub mod Stores
pub mod Formed
pub mod Misfits
pub mod Lines
