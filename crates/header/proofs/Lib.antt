-- Bytes in segments, the header's words, and what the guard says.
pub mod Segments
pub mod Images
pub mod Begun
pub mod Anchors
pub mod Guards
