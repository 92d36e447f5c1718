pub mod Tests
pub mod Conds
pub mod Rest
pub mod Unique
