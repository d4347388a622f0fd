-- What the replies of the public calls mean, and what a call's contract says.
pub mod Replies
