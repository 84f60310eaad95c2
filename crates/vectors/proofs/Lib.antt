-- The laws that the proofs of `vectors` share.
pub mod Amounts
pub mod Reading
pub mod Joining
pub mod Congruent
pub mod Mapping
