-- The definitions that the contracts of `lent_lists` cite.
pub mod Members
