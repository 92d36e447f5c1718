pub mod Acting
pub mod Accesses
pub mod Rows
