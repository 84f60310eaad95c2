-- What the contracts of `ring_calls` say.
pub mod From
pub mod Outcome
pub mod Signed
