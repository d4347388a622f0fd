-- The definitions that the contracts of `call_progress` cite.
pub mod Progress
