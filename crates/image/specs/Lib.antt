-- Well-formed stores, their image in bytes, and calls on bytes.
pub mod WellFormed
pub mod Image
pub mod Claims
pub mod Area
pub mod Demand3OnBytes
pub mod Output
pub mod Lent
