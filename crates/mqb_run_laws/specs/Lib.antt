pub mod Continuing
pub mod Transcripts
