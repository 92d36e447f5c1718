pub mod Links
pub mod Unique
pub mod LentTables
pub mod Slots
