-- The laws that the proofs of `signed` share.
pub mod Reversal
pub mod Summing
