pub mod Sessions
pub mod Internals
pub mod Widths
pub mod lemmas
