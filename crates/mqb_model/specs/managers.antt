pub mod Manager
pub mod Beside
pub mod Outcomes
pub mod Restarts
pub mod Readers
pub mod Valid
