-- The laws that the proofs of `encryption` share.
pub mod Sums
pub mod Cipher
