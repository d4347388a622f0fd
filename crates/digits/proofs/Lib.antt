-- Laws of texts written one after the other and of digits, for this crate's proofs and its callers'.
pub mod Writing
pub mod Digits
