-- The definitions that the contracts of `totals` cite.
pub mod Totals
