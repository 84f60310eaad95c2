-- What the contracts of `encryption` say.
pub mod Inputs
pub mod Errors
pub mod Noiseless
