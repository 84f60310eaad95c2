-- The laws that the proofs of `hash` share.
pub mod Padding
pub mod Steps
pub mod Finish
pub mod Blocks
pub mod Octets
pub mod Laws
