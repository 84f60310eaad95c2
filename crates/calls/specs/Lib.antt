-- What the contracts of `calls` say.
pub mod Exits
pub mod Refusals
