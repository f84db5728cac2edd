pub mod Meetings
pub mod Drained
pub mod Laws
pub mod Work
pub mod Worked
pub mod Recovery
pub mod Rounds
pub mod WorkedRounds
