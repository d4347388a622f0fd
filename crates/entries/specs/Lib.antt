-- The definitions that the contracts of `entries` and of its callers cite, beside those of model/specs/Entries.antt.
pub mod Bytes
pub mod Lists
