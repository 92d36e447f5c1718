pub mod Comes
pub mod Fits
pub mod Refusals
pub mod Looked
pub mod Stands
pub mod Written
pub mod Orders
