-- What the contracts of `packing` say besides the definitions of `bits`.
pub mod Apart
pub mod Reading
pub mod Turns
