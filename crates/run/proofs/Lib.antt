pub mod Fills
pub mod LastTexts
pub mod Steps
pub mod Unique
