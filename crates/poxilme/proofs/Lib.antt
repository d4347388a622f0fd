-- The read totals of a store's bytes, as given.
pub mod Totals
pub mod Owned
pub mod Flags
