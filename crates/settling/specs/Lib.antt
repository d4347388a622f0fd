-- What an answer's values do to the top.
pub mod Settling
