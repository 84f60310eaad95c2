-- What the contracts of `product` say.
pub mod Dots
pub mod Toeplitz
pub mod Halves
