pub mod Conversations
pub mod Laws
pub mod Worked
pub mod Serving
pub mod Steps
pub mod EndLaws
