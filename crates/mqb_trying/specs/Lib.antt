pub mod Notes
pub mod Takes
pub mod Sends
pub mod Trials
pub mod Trying
