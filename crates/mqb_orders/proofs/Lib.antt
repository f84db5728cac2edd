pub mod Members
pub mod Greatest
pub mod Least
pub mod Below
pub mod Halves
