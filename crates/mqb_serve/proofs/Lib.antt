pub mod Calls
pub mod Keeps
pub mod Stopped
pub mod Moves
pub mod Closing
