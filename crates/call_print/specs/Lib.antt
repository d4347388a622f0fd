-- The definitions that the contracts of `call_print` cite.
pub mod Part
