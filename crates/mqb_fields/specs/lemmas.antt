pub mod Again
pub mod Wrote
