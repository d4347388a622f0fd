-- Laws of the table of chains.
pub mod ChainLaws
pub mod SlotAt
