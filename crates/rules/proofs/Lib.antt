-- The laws of the definitions and the theorems about them. The files have the names of those in specs/, and `Padding` is
-- about the bits of a text from n on and of a pattern from m on, and about patterns with which the same bits agree.
pub mod Ranges
pub mod Pattern
pub mod Occurrence
pub mod Step
pub mod Scratch
pub mod Plain
pub mod Hash
pub mod Skip
pub mod Wide
pub mod Tail
pub mod Methods
pub mod Machine
pub mod Padding
pub mod Wild
pub mod Before
