-- The refusal of a call at an anchor, and the stores that an open and an install leave.
pub mod Header
