-- The place of an awaiting slot, what a change of the awaiting slots asks and leaves, and the slots of a lent list.
pub mod Awaiting
pub mod Lent
