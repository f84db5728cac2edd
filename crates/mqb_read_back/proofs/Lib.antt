mod Loops
mod Searching
mod Keeping
mod Waiting
