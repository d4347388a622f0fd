-- The plan of final writes.
pub mod Plan
pub mod Lent
