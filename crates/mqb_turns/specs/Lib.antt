pub use Rattle.mqb_traffic.specs as mqb_traffic
pub use Rattle.mqb_seats.specs.mqb_replies as mqb_replies
pub use Rattle.mqb_seats.specs as mqb_seats
pub mod Replies
pub mod Sides
pub mod Counts
pub mod Settling
pub mod Turns
pub mod Starts
pub mod Sends
pub mod Passes
pub mod Rewrites
pub mod lemmas
pub use Rattle.mqb_seats.specs.Moves
pub use Rattle.mqb_seats.specs.Seats
pub use Rattle.mqb_seats.specs.Pumped
