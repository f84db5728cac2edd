pub use Rattle.mqb_replies.specs.mqb_manager
pub use Rattle.mqb_replies.specs as mqb_replies
pub mod Told
pub mod Texts
pub mod Outcomes
pub mod Calls
