-- Laws of counts that agree, of filled outputs, of entries read back, and of outcomes.
pub mod Agreeing
pub mod Filled
pub mod Fits
pub mod Outcomes
