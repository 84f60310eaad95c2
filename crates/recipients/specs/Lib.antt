-- What the contracts of `recipients` say.
pub mod Status
pub mod Rooms
pub mod Exits
