pub mod Store
pub mod Gates
pub mod Layouts
pub mod Checkpoints
pub mod lemmas
