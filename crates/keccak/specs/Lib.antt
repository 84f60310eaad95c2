-- What the contracts of `keccak` say: FIPS 202's permutation, on states and on strings.
pub mod Lists
pub mod Keccak
pub mod Strings
pub mod Bounds
