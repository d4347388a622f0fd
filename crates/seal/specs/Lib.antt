-- What a store is after the seal of an advance.
pub mod Sealed
