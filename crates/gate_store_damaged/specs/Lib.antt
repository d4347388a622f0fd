-- The definitions that the contracts of `gate_store_damaged` cite.
pub mod Tally
