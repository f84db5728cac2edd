pub mod Joining
pub mod Bad
pub mod Basing
