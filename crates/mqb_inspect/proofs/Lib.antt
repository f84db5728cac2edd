pub mod Coming
pub mod Knowing
pub mod Going
pub mod Ending
pub mod Linking
pub mod Sinking
pub mod Keeping
pub mod Telling
