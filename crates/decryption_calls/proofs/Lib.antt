-- The laws that the proofs of `decryption_calls` share.
pub mod Endings
pub mod Fitted
pub mod Calls
pub mod Exits
