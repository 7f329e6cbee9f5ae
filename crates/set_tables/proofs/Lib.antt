-- The laws of a set's tables: which bits a pattern begins with, how the tables are made, and how they are asked.
pub mod Begins
pub mod Entering
pub mod Scanning
