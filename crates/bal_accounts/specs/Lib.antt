-- The accounts of a block access list, what a plan admits of them, and the walk over them.
pub mod Accounts
pub mod Walking
pub mod Lent
