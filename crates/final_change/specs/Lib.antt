-- Changes of slots, and which of them is final.
pub mod Changes
pub mod Eip7928
