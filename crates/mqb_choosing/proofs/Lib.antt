pub mod Offers
pub mod Left
pub mod Members
pub mod Waiting
pub mod Acks
pub mod Sendable
pub mod Ended
pub mod Walks
pub mod Settled
pub mod Noted
pub mod Rests
pub mod OwedRows
mod Drafted
