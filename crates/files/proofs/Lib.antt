-- The theorems to read first: Numbers (its end), Accepted, AfterRefusal, Written, Writer, Demand3 and, for a program that reads by a cursor, Comes.
pub mod Follows
pub mod ReadAll
pub mod Comes
pub mod Count
pub mod Numbers
pub mod Items
pub mod Headers
pub mod Files
pub mod Accepted
pub mod Looked
pub mod AfterRefusal
pub mod Written
pub mod Writer
pub mod Demand3
