-- Laws of a slot's final change.
pub mod Highest
pub mod Last
