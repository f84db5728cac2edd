pub mod Acks
pub mod Brought
pub mod Heard
pub mod Planned
pub mod Records
pub mod Released
pub mod Shown
