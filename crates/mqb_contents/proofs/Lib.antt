pub use Rattle.mqb_tables.proofs as mqb_tables
pub mod Places
pub mod Laws
pub mod Grown
pub mod Ready
pub mod Named
pub mod Reserved
pub mod Sources
pub mod InUse
