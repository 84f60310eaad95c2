-- What the contracts of `bits` say: bit strings.
pub mod Bits
