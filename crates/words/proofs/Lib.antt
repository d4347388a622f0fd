-- Laws of numbers in bytes and of moved and replaced parts, for this crate's proofs and its callers'.
pub mod Numbers
pub mod Moves
pub mod Places
pub mod Pasting
