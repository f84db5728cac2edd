pub use Rattle.mqb_replies.proofs as mqb_replies
mod Asked
mod Lasting
mod Opening
mod Pumping
mod Rewriting
mod Telling
