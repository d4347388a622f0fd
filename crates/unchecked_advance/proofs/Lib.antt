-- The applied writes of a list, the output that they leave, the counts of a store, the end of an advance, its kinds and which of them it is, and its refusals.
pub mod AppliedLaws
pub mod Outputs
pub mod Counted
pub mod Finished
pub mod Begun
pub mod Steps
pub mod Performs
pub mod Proceeded
pub mod Ranges
pub mod Decided
