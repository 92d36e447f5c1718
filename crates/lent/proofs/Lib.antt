pub mod Events
pub mod Unique
