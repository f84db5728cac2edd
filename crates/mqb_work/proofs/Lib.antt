mod Telling
mod Joining
mod Working
