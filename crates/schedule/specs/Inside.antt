-- What the contracts of private functions cite: no public promise rests on it.
pub mod Kinds
pub mod Continuing
pub mod Laying
