pub mod Numbers
pub mod ReadAt
pub mod Gathering
