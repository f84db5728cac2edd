pub mod Work
pub mod Steps
pub mod Refusals
pub mod Laws
pub mod Twice
