pub use Rattle.mqb_contents.proofs as mqb_contents
pub mod Ends
pub mod Unsent
pub mod Outs
pub mod Releasing
