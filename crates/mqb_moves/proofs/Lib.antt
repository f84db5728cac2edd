mod Counted
mod Downs
mod Never
