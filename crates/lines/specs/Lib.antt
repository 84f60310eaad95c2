-- What the contracts of `lines` say: the lines of records.
pub mod Line
