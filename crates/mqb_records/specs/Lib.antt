pub use Rattle.mqb_arrivals.specs as mqb_arrivals
pub mod Unfit
pub mod Applied
pub mod Ops
pub mod Ordered
