-- The fold, and records stored one after the other: what the contracts of `fold` cite.
pub mod Fold
pub mod Stored
