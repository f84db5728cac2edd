pub mod Lines
pub mod Reading
pub mod Ends
pub mod Standing
pub mod Doing
pub mod Answered
pub mod Shells
