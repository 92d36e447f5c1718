pub mod Reads
pub mod Answers
pub mod Start
pub mod Struck
pub mod Releases
pub mod Demand3
