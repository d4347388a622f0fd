-- The laws behind the contracts of `counts`, and what the counts are for layers.
pub mod SlotCounts
pub mod CountLaws
pub mod LayerCounts
