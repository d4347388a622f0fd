-- Entries of lists in bytes, addresses that rise, what a write does, a write applied to a store, and the writes of a list.
pub mod Entries
pub mod Rising
pub mod Doing
pub mod Applying
pub mod Seeding
