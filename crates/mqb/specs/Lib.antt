pub mod Completeness
pub mod Disks
pub mod Runs
pub mod Uses
pub mod lemmas
