-- Recorded call lists, and that the definitions give the oracle's listings; the definitions at their limits.
pub mod Lists
pub mod Agree
pub mod Limits
