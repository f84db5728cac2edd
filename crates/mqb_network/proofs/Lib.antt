mod Written
pub mod Joining
