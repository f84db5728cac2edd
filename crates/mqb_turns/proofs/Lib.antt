pub use Rattle.mqb_seats.proofs as mqb_seats
mod Heard
mod Parting
mod Posts
mod Quiet
mod Rewriting
mod Rows
mod Started
mod Turning
