-- The laws behind the contracts of `fold`, and what the fold is for layers.
pub mod RisingLaws
pub mod FoldedLaws
pub mod EmitLaws
pub mod BestLaws
pub mod StoredLaws
pub mod TurnLaws
pub mod FitLaws
