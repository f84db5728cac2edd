pub mod Coming
pub mod Connected
pub mod Delivered
pub mod Flowed
pub mod Flowing
pub mod Exchanging
pub mod SettingUp
pub mod Unsent
