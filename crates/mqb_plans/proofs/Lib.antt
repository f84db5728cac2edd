pub mod Comes
pub mod Counts
pub mod Planned
pub mod Taken
pub mod Telling
