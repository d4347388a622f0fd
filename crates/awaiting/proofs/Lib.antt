-- Laws of awaiting slots in bytes and of lent lists of slots, for this crate's proofs and its callers'.
pub mod Places
pub mod Awaits
pub mod Stored
pub mod Lists
pub mod Shifts
pub mod Changes
pub mod Entries
pub mod Area
