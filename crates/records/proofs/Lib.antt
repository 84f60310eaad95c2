-- The laws that the proofs of `records` share.
pub mod Headers
pub mod Stepping
pub mod Windows
pub mod Transcripts
pub mod Examples
