pub mod Waiting
pub mod Work
pub mod Noting
