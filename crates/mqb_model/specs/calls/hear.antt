pub mod Session
pub mod Streams
pub mod Plain
pub mod Hear
