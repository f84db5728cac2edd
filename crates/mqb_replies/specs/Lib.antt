pub use Rattle.mqb_manager.specs as mqb_manager
pub mod Replies
pub mod Requests
pub mod Asked
