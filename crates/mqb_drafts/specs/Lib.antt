pub use Rattle.mqb_contents.specs as mqb_contents
pub mod Drafts
pub mod Rows
