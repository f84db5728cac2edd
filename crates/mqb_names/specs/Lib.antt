pub mod Printed
pub mod Parts
pub mod Reading
pub mod Directs
pub mod Wire
pub mod Values
pub mod Grammar
pub mod lemmas
