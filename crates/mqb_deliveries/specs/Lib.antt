pub mod Steps
pub mod Failing
pub mod Delivers
pub mod Flows
pub mod Courses
pub mod Peers
pub mod lemmas
