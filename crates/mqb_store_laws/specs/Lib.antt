pub mod Images
pub mod Settling
pub mod Writing
pub mod Faults
pub mod Checkpoints
pub mod Laws
pub mod Carrying
pub mod lemmas
