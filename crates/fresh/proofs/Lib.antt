pub mod Freshness
pub mod Unique
