pub mod Accessed
pub mod Judged
pub mod Turns
pub mod Unique
