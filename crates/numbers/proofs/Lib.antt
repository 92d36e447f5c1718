-- The laws of a number's bytes and of reading them, Follows to Gathers; and that the promise leaves one outcome, Unique.
pub mod Sizes
pub mod Follows
pub mod ReadAt
pub mod Gathers
pub mod Unique
