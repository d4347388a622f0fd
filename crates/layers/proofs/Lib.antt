-- Laws of a store's header, and of a search of the layers.
pub mod Header
pub mod Search
