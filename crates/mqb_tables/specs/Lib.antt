pub use Rattle.mqb_model.specs as mqb_model
pub mod Keys
pub mod Tables
pub mod Ends
pub mod Rooms
pub mod Waits
pub mod Seen
