-- What the proofs of several functions cite, and the theorems about what is printed.
pub mod Enough
pub mod Answers
pub mod Reporting
pub mod Printed
pub mod Running
pub mod Examples
