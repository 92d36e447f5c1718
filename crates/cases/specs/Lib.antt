pub mod Block
pub mod Lent
