pub mod Prints
