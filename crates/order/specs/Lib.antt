-- The index that the contracts of `order` cite.
pub mod Index
pub mod Props
pub mod Walk
pub mod Lent
