-- Parts of lists of bytes: the definitions that the contracts of `words` cite.
pub mod Parts
pub mod Moved
