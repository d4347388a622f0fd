-- What the calls come to.
pub mod Turned
pub mod Said
pub mod Guards
pub mod Here
