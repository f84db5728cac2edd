pub mod Walks
pub mod Ends
pub mod Sized
pub mod Carried
mod Backs
pub mod Members
pub mod SoFar
mod FieldsAgain
mod PeersAgain
mod PlacesAgain
mod OwnAgain
mod PlainAgain
pub mod Turned
mod OutsAgain
mod InsAgain
pub mod StateAgain
mod Lists
mod Readers
mod FieldsRead
mod MessagesRead
mod Sound
mod PeersSound
mod PlacesSound
mod PlainSound
mod OutsSound
mod InsSound
mod StateSound
mod Filled
mod PlacesFilled
mod PlainFilled
mod RowsFilled
mod StateFilled
mod StateRead
