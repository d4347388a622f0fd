-- The definitions that the contracts of `call_reader` cite.
pub mod Calls
