pub use Rattle.mqb_fields.specs as mqb_fields
pub use Rattle.mqb_heads.specs.mqb_names as mqb_names
pub use Rattle.mqb_setup.specs as mqb_setup
pub use Rattle.mqb_heads.specs as mqb_heads
pub mod Parts
pub mod Spelled
pub mod Plain
pub mod Values
pub mod lemmas
pub mod Forms
pub mod Grammar
pub mod DirectNames
pub mod ReadPackets
