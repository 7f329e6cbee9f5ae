-- The laws of the definitions and the theorems about them; the first files have the names of those in specs/.
pub mod Verdict
pub mod Answers
pub mod Scratch
pub mod Passed
pub mod Calls
pub mod Progress
pub mod Padding
pub mod Wild
pub mod Examples
pub mod Ending
pub mod Accepting
pub mod Rows
