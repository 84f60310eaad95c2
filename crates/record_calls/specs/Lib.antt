-- What the contracts of `record_calls` say.
pub mod Bodies
pub mod Outputs
