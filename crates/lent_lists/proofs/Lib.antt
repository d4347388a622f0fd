-- The entries of lent parts of a list, and its members as entries of a lent answer.
pub mod Entries
pub mod Members
