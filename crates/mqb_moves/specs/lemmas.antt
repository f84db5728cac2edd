pub mod Calling
pub mod Checkpointing
pub mod Far
pub mod Stored
pub mod Restarting
