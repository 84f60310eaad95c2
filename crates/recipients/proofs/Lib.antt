-- The laws that the proofs of `recipients` share.
pub mod Places
pub mod Checks
