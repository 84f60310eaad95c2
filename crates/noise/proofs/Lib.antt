-- The laws that the proofs of `noise` share.
pub mod Agreeing
pub mod Tables
pub mod Products
pub mod Bounds
pub mod Streams
