-- What the contracts of `records` say.
pub mod Header
pub mod Record
pub mod Transcript
pub mod Steps
