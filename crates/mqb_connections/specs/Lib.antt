pub mod Asked
pub mod Causes
pub mod Statuses
pub mod Visits
pub mod Told
pub mod Served
pub mod Reached
pub mod Probed
