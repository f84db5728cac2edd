pub use Rattle.mqb_store_laws.specs as mqb_store_laws
pub mod States
pub mod Writing
pub mod Replaying
pub mod Reaching
pub use Rattle.mqb_state.specs.Together
pub use Rattle.mqb_state.specs.Work
pub use Rattle.mqb_state.specs.Noting
