-- What the contracts of `hash` say: FIPS 202's sponge, and SHAKE by its rate.
pub mod Shake
pub mod Stream
