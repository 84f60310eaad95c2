-- What the contracts of `encryption_calls` say.
pub mod Status
pub mod Exits
