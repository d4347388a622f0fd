-- How the bytes of a store change with its top, and room for a record.
pub mod Changed
pub mod Tops
pub mod Rooms
