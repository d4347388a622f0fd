-- Laws of the lines of an answer, for this crate's proofs and those above it.
pub mod Slots
pub mod Lines
