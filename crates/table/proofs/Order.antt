pub mod Needs
pub mod Replay
pub mod Ordered
pub mod Teeth
pub mod Before
pub mod Needed
pub mod Supplied
pub mod Joined
