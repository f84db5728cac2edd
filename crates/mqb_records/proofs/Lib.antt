mod Framing
mod Finding
mod Stepping
mod Reading
mod Ordering
mod Recording
mod Halved
