-- What a run's answer says of the part of the listing that it makes.
pub mod Parts
