pub mod FieldFormats
pub mod Formats
pub mod MemberFormats
