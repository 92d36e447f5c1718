pub mod LentMemory
pub mod LentWords
