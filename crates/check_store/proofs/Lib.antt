-- Laws of the chain of checks.
pub mod Links
