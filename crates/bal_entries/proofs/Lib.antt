-- Laws of filling outputs, and of walking slots and reads.
pub mod Filling
pub mod SlotWalk
pub mod ReadWalk
