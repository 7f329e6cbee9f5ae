-- What a call answers, what the scratch and the second run are to it, and what is claimed of every list of calls: a reader
-- believes these definitions. `Parts` is what the parts of the call promise each other.
pub mod Verdict
pub mod Scratch
pub mod Wild
pub mod Calls
pub mod Progress
pub mod Examples
pub mod Parts
pub mod HashAnswers
