-- Call lists: what they say, how they are read, what it means, their listing, and the run of the program `calls`.
pub mod Listed
pub mod CallList
pub mod Meaning
pub mod Listing
pub mod Calls
