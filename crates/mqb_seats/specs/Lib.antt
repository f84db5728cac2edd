pub use Rattle.mqb_replies.specs as mqb_replies
pub mod Called
pub mod Lasting
pub mod Opened
pub mod Passed
pub mod Pumped
pub mod lemmas
pub use Rattle.mqb_moves.specs.Seats
pub use Rattle.mqb_moves.specs.Moves
pub use Rattle.mqb_moves.specs.Counting
pub use Rattle.mqb_moves.specs.Holding
pub use Rattle.mqb_moves.specs.lemmas.Stored
pub use Rattle.mqb_moves.specs.lemmas.Far
