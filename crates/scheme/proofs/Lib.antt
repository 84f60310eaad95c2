-- Demand 3 of the calls, and the laws that it stands on.
pub mod Left
pub mod Demand3
pub mod Recipients
