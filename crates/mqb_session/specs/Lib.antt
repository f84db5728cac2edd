pub mod State
pub mod Inside
pub mod Phases
pub mod Hearing
pub mod Sending
pub mod Calls
