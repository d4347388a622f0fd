-- Laws of the run of a call list.
pub mod Read
pub mod Texts
pub mod Reached
pub mod Room
pub mod Running
pub mod Ends
pub mod Once
pub mod Program
