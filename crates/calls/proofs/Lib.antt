-- The laws of answers that the proofs of all calls share, and those of the SHAKE calls.
pub mod Ends
pub mod Checked
pub mod Refused
pub mod FromPlace
