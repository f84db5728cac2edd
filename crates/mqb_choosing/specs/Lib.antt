pub use Rattle.mqb_contents.specs as mqb_contents
pub mod Choices
pub mod Going
pub mod Marks
pub mod Noting
pub mod Owed
pub mod Plans
