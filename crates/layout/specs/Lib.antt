-- Where everything in a store stands.
pub mod Layout
