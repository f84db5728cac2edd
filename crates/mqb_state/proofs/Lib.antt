mod Leading
mod Marks
mod Again
mod Tried
