pub mod Record
pub mod Event
pub mod Refusal
