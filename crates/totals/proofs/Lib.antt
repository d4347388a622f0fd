-- Laws of the read totals: their bounds, their places in bytes, and in a store.
pub mod Bounds
pub mod Places
pub mod InStore
