-- The definitions that the contracts of `call_run` cite.
pub mod Run
pub mod Inner
pub mod Program
