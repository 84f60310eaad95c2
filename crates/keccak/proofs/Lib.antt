-- The laws that the proofs of `keccak` share.
pub mod Entries
pub mod Loops
pub mod Rows
pub mod Tables
pub mod Parts
