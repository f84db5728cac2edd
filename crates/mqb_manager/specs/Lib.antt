pub use Rattle.mqb_hearing.specs as mqb_hearing
pub use Rattle.mqb_store.specs.mqb_store_laws as mqb_store_laws
pub mod States
pub mod Calls
pub mod Checkpoints
pub mod Seen
pub mod Writing
pub mod Quiet
pub mod Pumps
pub mod Keeping
pub mod lemmas
