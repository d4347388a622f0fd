-- The laws behind the contracts of `order`.
pub mod IndexLaws
pub mod NumberLaws
pub mod RecordLaws
pub mod MergeLaws
pub mod SortLaws
pub mod FieldLaws
pub mod CountLaws
pub mod WalkLaws
