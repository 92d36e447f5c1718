pub mod Pieces
pub mod Comes
pub mod Blocks
pub mod Longer
pub mod Begins
pub mod Theorem
pub mod EndToEnd
pub mod LastLine
