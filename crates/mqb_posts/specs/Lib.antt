pub mod Packets
pub mod Posting
