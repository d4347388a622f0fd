-- Laws of the parts of a call list, for this crate's proofs and its callers'.
pub mod Groups
pub mod Chain
pub mod Runs
