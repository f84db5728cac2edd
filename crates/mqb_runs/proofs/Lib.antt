mod Keeping
mod Streams
