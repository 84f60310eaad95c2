-- What the contracts of `hex` say: the hexadecimal digits of bytes.
pub mod Digits
