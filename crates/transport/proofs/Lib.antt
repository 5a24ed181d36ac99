pub mod Answered
pub mod RingLists
pub mod BeltLists
pub mod RoomLaws
pub mod Sendings
pub mod Limits
