-- The records that an answer adds, its members one by one, and stores with another top.
pub mod Additions
pub mod Members
pub mod Tops
