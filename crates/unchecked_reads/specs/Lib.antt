-- What the parts of reads on a known store speak of.
pub mod Inner
