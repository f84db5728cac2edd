pub mod Faults
pub mod Words
pub mod Values
pub mod Plans
pub mod Sends
pub mod Formed
