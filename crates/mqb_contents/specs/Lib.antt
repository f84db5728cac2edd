pub use Rattle.mqb_tables.specs.mqb_model
pub use Rattle.mqb_tables.specs as mqb_tables
pub mod Rooms
pub mod Rows
pub mod Seen
pub mod Changes
