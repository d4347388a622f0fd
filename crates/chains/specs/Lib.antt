-- The table of chains that the contracts of `chains` cite.
pub mod Chains
