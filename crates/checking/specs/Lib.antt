-- What the checks of a store test, part by part.
pub mod Checks
