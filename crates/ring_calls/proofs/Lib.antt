-- The laws that the proofs of `ring_calls` share.
pub mod From
pub mod Strings
