-- What the contracts of `ring` say: integers modulo q, polynomials modulo X^n + 1.
pub mod Integers
pub mod Poly
pub mod Coefficients
pub mod Terms
