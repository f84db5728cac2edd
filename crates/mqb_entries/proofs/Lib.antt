mod EntryAgain
mod EntryFormats
mod EntryLaws
mod Joined
mod Lengths
mod ListFormats
mod Passing
mod Walks
