-- What demand 3 is said of.
pub mod Leaves
