-- The calls of the public functions, and demand 3 over any list of them.
pub mod PublicCalls
pub mod Demand3ForCalls
