pub mod Carrying
pub mod Settling
pub mod Writing
