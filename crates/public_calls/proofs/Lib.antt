-- What the calls of the public functions are, demand 3 over any list of them, and the ranges of arguments passed by value.
pub mod Effects
pub mod Joined
pub mod Ranges
