-- Laws of the plan's addresses and of its caps.
pub mod Admitting
pub mod Caps
