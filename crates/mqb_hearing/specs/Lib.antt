pub mod Arrivals
pub mod Lent
pub mod Plans
