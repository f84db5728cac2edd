pub mod Asking
pub mod DiskFaults
pub mod Empty
pub mod Peeking
pub mod Shelling
pub mod Completing
pub mod Quiet
pub mod Replaying
