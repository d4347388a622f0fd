-- Laws of the checks.
pub mod Bools
pub mod Cuts
pub mod Reading
pub mod Law
pub mod Rows
pub mod Decode
pub mod Steps
pub mod Parts
