-- The laws of the definitions and the theorems about them.
pub mod Lowest
pub mod Rows
pub mod Answers
pub mod Calls
pub mod Single
pub mod Progress
pub mod Standing
pub mod Listing
pub mod Running
pub mod Blocks
