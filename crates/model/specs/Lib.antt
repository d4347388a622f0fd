-- The definitions of the store: slots, contents, layers, advances, reads, calls, refusals, the flat ledger, and demand 3.
pub mod Numbers
pub mod Slots
pub mod Contents
pub mod Layers
pub mod Advance
pub mod Reads
pub mod Entries
pub mod Store
pub mod Refusals
pub mod FlatLedger
pub mod TrueInputs
pub mod Demand3
pub mod Cases
pub mod Witness
