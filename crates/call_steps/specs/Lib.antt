-- The definitions that the contracts of `call_steps` cite.
pub mod Steps
