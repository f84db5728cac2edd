pub mod Faults
pub mod Guids
pub mod Packets
pub mod Reading
pub mod Writing
pub mod lemmas
