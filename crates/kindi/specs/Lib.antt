-- KINDI as 01 fixes it: what the contracts of the scheme say.
pub mod Both
pub mod Params
pub mod Lengths
pub mod Streams
pub mod Keys
pub mod Encrypt
pub mod Decrypt
pub mod Kem
pub mod Noise
pub mod Answers
pub mod Calls
pub mod Recipients
