-- The definitions that the contracts of `call_answers` cite.
pub mod Answers
