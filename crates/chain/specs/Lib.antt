pub mod Walking
pub mod Keys
