pub mod Counts
pub mod Faulty
pub mod Gathered
pub mod Bounds
pub mod Unread
mod Ringed
pub mod Splitting
pub mod Decimals
pub mod Fields
pub mod WordsBack
pub mod StepsBack
pub mod Spelled
mod MadeReading
mod Making
mod Bounding
mod Sizing
mod Whole
