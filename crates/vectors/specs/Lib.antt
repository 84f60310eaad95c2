-- What the contracts of `vectors` say.
pub mod Vectors
