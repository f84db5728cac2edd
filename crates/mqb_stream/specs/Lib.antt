pub mod Cutting
pub mod Framing
pub mod Histories
