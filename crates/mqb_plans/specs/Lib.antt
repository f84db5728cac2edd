pub mod Answers
pub mod Calls
pub mod Plans
pub mod Sending
