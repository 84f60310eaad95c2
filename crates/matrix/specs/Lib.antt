-- What the contracts of `matrix` say.
pub mod Product
pub mod Walk
