-- The counts that the contracts of `counts` cite.
pub mod Counts
