pub mod Faults
pub mod Devices
pub mod Disks
pub mod Plays
pub mod Replays
pub mod Completeness
pub mod Trials
