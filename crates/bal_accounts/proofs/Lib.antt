-- Laws of walking accounts.
pub mod AccountWalk
pub mod Within
