pub use Rattle.mqb_contents.specs as mqb_contents
pub mod Tails
pub mod Spelled
pub mod Snapshot
pub mod Spellable
pub mod Parts
pub mod Fields
pub mod Reading
pub mod Values
pub mod Laws
pub mod ReadLaws
