pub mod Filling
pub mod Pieces
pub mod PrivatePromises
pub mod Output
