pub use Rattle.mqb_names.specs as mqb_names
pub mod Flags
pub mod Fields
pub mod Base
pub mod User
pub mod Transactions
pub mod Properties
pub mod Values
pub mod lemmas
