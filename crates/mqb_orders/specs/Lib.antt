pub mod KeptLists
pub mod Rows
pub mod Judging
pub mod Streams
pub mod Laws
