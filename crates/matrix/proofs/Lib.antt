-- The laws that the proofs of `matrix` and its users share.
pub mod Replaced
pub mod Counts
pub mod Terms
pub mod Walking
pub mod Whole
