pub mod Definitions
pub mod Faulted
mod Refusals
mod Making
