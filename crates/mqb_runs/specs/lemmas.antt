pub mod Growing
pub mod Orderly
pub mod Asked
