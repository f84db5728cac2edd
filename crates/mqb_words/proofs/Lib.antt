pub mod Fronts
pub mod Formed
