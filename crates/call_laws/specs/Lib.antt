-- The calls of a call list on lent bytes.
pub mod Runs
