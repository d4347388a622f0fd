-- The definitions that the contracts of `listing` cite.
pub mod Lines
