-- The laws that the proofs of `product` share.
pub mod Columns
pub mod Halving
pub mod Joining
pub mod Dots
