pub mod Stepwise
pub mod Refusals
pub mod Validity
pub mod Durable
pub mod Fitting
pub mod Keeping
