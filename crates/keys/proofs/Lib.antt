-- The laws that the proofs of `keys` share.
pub mod Made
