-- What an advance leaves in its output, and what its parts speak of.
pub mod Outputs
pub mod Inner
