pub mod Walks
pub mod Reading
pub mod Unique
