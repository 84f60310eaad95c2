-- What the contracts of `noise_calls` say.
pub mod Status
pub mod Fitting
pub mod Exits
