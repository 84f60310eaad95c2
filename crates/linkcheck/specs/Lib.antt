-- What the contracts of `linkcheck` say.
pub mod Turns
