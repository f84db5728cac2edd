pub mod Closed
pub mod Window
pub mod Numbers
