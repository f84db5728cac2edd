pub mod Carrying
pub mod Reaching
