-- Laws of what is lent to exported calls and of what they give, for this crate's proofs and its callers'.
pub mod Ranges
pub mod Giving
pub mod Joining
pub mod Numbered
pub mod Kept
pub mod Copied
