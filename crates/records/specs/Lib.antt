-- The order of slots, the place of a slot among records, and the words of a record.
pub mod Records
