-- The laws that the proofs of `ring` share.
pub mod Integers
pub mod Modular
pub mod Sums
pub mod Ring
pub mod Residues
pub mod Product
pub mod Sizes
pub mod Examples
