-- Final writes: a block access list under a plan, and the bytes that it is lent in.
pub mod FinalWrites
pub mod Lent
pub mod Counts
