-- What the contracts of `decryption_calls` say.
pub mod Status
pub mod Fitting
pub mod Exits
