-- The laws that the proofs of `cipher_terms` share.
pub mod Masks
pub mod Terms
pub mod Public
