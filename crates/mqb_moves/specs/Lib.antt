pub use Rattle.mqb_network.specs as mqb_network
pub mod Seats
pub mod Moves
pub mod Never
pub mod Downs
pub mod Counting
pub mod Calling
pub mod Holding
pub use Rattle.mqb_manager.specs.States
pub use Rattle.mqb_manager.specs.Calls
pub use Rattle.mqb_manager.specs.Checkpoints
pub mod lemmas
