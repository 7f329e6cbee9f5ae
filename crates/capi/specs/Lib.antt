-- What each call for C and Rust promises, in reading order: what a call tells, then one definition for each call, with what
-- the scratch and the pattern's second run are to it, the claim about the list file's writer and reader one after the other,
-- the claim about every list of search calls, when such a list goes on, the search for a set of patterns with its own such claim, and the claim about the key that a finished search
-- gives. The rules themselves are those of the crates below; only the numbers 100 and 101 are new here. `Inner` is what the
-- private functions promise.
pub mod Told
pub mod Scan
pub mod Scratch
pub mod Wild
pub mod EightBits
pub mod ListFile
pub mod Sitting
pub mod CallList
pub mod Progress
pub mod PatternSet
pub mod AnswerKey
pub mod Inner
