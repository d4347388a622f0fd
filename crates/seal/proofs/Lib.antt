-- Laws of the link, of a header's bytes, and of the seal.
pub mod Link
pub mod Headers
pub mod Rooms
pub mod Kept
pub mod Folded
pub mod Compacted
pub mod Decoded
