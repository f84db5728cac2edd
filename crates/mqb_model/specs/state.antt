pub mod State
pub mod Durable
pub mod Resolving
pub mod Places
pub mod Rows
pub mod Valid
