-- The laws that the proofs of `linkcheck` share.
pub mod Laws
