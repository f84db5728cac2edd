pub mod States
pub mod Networks
