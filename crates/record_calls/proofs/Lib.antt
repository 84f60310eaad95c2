-- The laws that the proofs of `record_calls` share.
pub mod Sizes
pub mod Outcomes
pub mod ByKind
