pub mod Printing
pub mod Texts
pub mod Generator
pub mod Told
pub mod lemmas
