-- What the contracts of `noise` say.
pub mod Terms
pub mod Rooms
