-- The definitions that the contracts of `reader` cite.
pub mod Answers
pub mod Reading
