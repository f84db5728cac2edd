pub mod Contents
pub mod Tears
pub mod Histories
pub mod Walks
