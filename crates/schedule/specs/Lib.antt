pub mod Encoding
pub mod Reading
pub mod HeaderRead
pub mod EventRead
pub mod Cursors
pub mod Writing
pub mod Inside
