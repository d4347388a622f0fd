-- What the calls of a call list come to on bytes, and what they leave.
pub mod Lent
pub mod Said
pub mod After
