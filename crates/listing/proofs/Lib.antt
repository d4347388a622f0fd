-- Laws of lines, for this crate's proofs and its callers'.
pub mod Fields
pub mod Lengths
