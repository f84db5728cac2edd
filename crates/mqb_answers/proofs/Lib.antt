pub mod Bodies
pub mod Telling
pub mod Peers
pub mod Requests
pub mod SomeOps
pub mod Definitions
