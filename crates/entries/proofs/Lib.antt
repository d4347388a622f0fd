-- Laws of bytes placed one after the other, of entries at places, and of lists of entries, for this crate's proofs and its callers'.
pub mod Placing
pub mod Numbers
pub mod Lists
pub mod Chunks
