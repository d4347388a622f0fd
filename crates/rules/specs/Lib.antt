-- The rules across layers, and the walk over an index: what the contracts of `rules` cite.
pub mod Rules
