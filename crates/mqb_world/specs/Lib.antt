pub use Rattle.mqb_runs.specs as mqb_runs
pub mod Faults
pub mod Worlds
pub mod Making
pub mod Standing
pub mod Disks
pub mod Acting
pub mod Ordered
pub mod Sides
pub mod Flowing
pub use Rattle.mqb_moves.specs.Seats
pub use Rattle.mqb_moves.specs.lemmas.Restarting
pub use Rattle.mqb_moves.specs.States
pub use Rattle.mqb_turns.specs.mqb_seats.Lasting
pub use Rattle.mqb_turns.specs.mqb_seats.lemmas.Keeping
