-- The store with another top, and what setting a record asks.
pub mod Top
