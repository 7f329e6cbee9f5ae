-- What the tables of a set hold, and what the functions that make and ask them promise.
pub mod Fronts
pub mod Parts
