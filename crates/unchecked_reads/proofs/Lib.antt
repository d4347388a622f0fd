-- How the image changes with other awaiting slots and totals, and what the calls come to.
pub mod Image
pub mod Turned
pub mod Queue
pub mod Said
pub mod Counts
pub mod Reading
pub mod Answering
