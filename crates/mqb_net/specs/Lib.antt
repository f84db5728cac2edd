pub mod Tcp
pub mod TwoWays
