-- The laws that the proofs of `noise_calls` share.
pub mod Places
pub mod Fitted
pub mod Calls
pub mod Exits
