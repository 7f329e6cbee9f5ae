-- What each method finds and how the machine makes its steps, in the order of document 01 and of its changes: a reader believes
-- these definitions.
pub mod Ranges
pub mod Pattern
pub mod Wild
pub mod Occurrence
pub mod Plain
pub mod Hash
pub mod Skip
pub mod Wide
pub mod Tail
pub mod Step
pub mod Scratch
pub mod Machine
pub mod Before
pub mod Papers
