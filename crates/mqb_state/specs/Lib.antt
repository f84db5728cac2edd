pub mod Attempts
pub mod Prepared
pub mod Together
pub use Rattle.mqb_records.specs.Unfit
pub use Rattle.mqb_timeouts.specs.Work
pub use Rattle.mqb_timeouts.specs.Noting
