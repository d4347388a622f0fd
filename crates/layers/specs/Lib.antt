-- What the answer of a search for a use means.
pub mod Answers
