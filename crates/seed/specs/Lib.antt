-- What a write does to a store's bytes, what the answers mean, and addresses that rise.
pub mod Writes
pub mod Rising
