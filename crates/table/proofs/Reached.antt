pub mod Listed
pub mod States
pub mod Refusals
pub mod LaterRun
pub mod QuietAgain
