pub mod Found
pub mod Steps
pub mod Drawing
pub mod Taking
pub mod Counted
