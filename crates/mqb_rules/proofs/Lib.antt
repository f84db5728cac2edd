pub mod Searches
pub mod Peers
pub mod Following
pub mod Loops
pub mod Here
pub mod Drafted
