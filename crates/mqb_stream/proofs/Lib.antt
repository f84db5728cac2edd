pub mod Filling
pub mod Cuts
