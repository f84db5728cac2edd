pub mod Checkpointing
