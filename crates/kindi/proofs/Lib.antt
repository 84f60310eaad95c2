-- The laws and theorems of the scheme.
pub mod Sets
pub mod Lengths
pub mod Strings
pub mod Chains
pub mod Padding
pub mod Made
pub mod Remainders
pub mod Strict
pub mod Value
pub mod Rounding
pub mod Correct
pub mod Lists
pub mod Recipients
pub mod Called
pub mod Examples
pub mod Theorems
