-- What the exported functions take and give, in numbers and bytes.
pub mod Arguments
pub mod ReplyWords
pub mod Inner
pub mod Few
pub mod Exported
pub mod Steps
