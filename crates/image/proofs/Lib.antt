-- Closure of well-formedness, and the image: words and entries, extent, reading back, calls on bytes; entries of lists of bytes fit.
pub mod RecordsOk
pub mod PendingOk
pub mod Facts
pub mod ReadsOk
pub mod Closure
pub mod Words
pub mod Entries
pub mod Extent
pub mod ReadBack
pub mod EntriesFit
pub mod Areas
pub mod Lent
pub mod OnBytes
pub mod Demand3Holds
pub mod Written
