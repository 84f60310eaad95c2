-- The laws that the proofs of `bits` share.
pub mod Filling
pub mod Digits
pub mod Words
