pub mod Failing
pub mod Answering
pub mod Checkpointed
pub mod TextLines
pub mod Going
pub mod Inputs
pub mod Ending
mod Order
mod Putting
mod Looking
mod Unlinked
