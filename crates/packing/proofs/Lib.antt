-- The laws that the proofs of `packing` share.
pub mod Bytes
pub mod Packing
pub mod Reading
pub mod Spreading
