-- Laws of call lists: what reading a call leaves, the calls of a list one by one, and their answers and listing on lent bytes.
pub mod Parses
pub mod Calls
pub mod Listing
