-- Laws of slots, places and records in bytes, for this crate's proofs and its callers'.
pub mod Slots
pub mod Written
pub mod Places
pub mod RecordsAt
pub mod Stored
pub mod Settled
pub mod Again
