-- What the contracts of `keys` say.
pub mod Stored
pub mod Inputs
