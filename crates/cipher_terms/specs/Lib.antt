-- What the contracts of `cipher_terms` say.
pub mod Inputs
pub mod Terms
