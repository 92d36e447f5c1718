pub mod ToCome
pub mod LastLine
