-- What the contracts of `decryption` say.
pub mod Opened
pub mod Inputs
