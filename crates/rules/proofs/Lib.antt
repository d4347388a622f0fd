-- The laws behind the contracts of `rules`, and what the rules mean for layers.
pub mod GroupLaws
pub mod RuleLaws
pub mod LayerLaws
pub mod LastLaws
