pub mod Appended
pub mod Due
pub mod Swept
pub mod Lapsed
pub mod Expired
pub mod Dropped
