pub mod Tests
pub mod Hyphens
pub mod FlagLetters
pub mod Steps
pub mod Formed
