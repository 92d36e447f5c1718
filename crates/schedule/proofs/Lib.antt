-- The laws of the reader, WaysOut, and of the writer, BytesNeeded to PutNumber; and that the promises of both leave one outcome, Unique.
pub mod WaysOut
pub mod BytesNeeded
pub mod Lays
pub mod PutNumber
pub mod Unique
