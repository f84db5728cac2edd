pub mod Searching
mod Waiting
mod Names
mod Deciding
mod Finishing
