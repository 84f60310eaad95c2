-- The laws that the proofs of `decryption` share.
pub mod Value
pub mod Remaining
pub mod Sums
pub mod Fitting
