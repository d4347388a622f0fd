-- The slots and reads of an account, and what a walk over them puts into outputs.
pub mod Listed
pub mod Filling
pub mod Walking
