mod Formed
mod Tries
mod Refused
mod Works
mod Calls
mod Courses
mod Twice
