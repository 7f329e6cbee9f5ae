-- Laws that the proofs of several functions cite (`Telling`, `Calling`), and the theorems about the promises: of one call
-- (`Answers`), of its scratch (`Scratch`) and of the pattern's second run (`Wild`), of every list of search calls (`CallList`) and when it goes on (`Progress`), of
-- the writer and the reader one after the other (`ListCalls`), of the marking (`SittingCalls`), and of the marking against
-- the key that a finished search gave (`AnswerKey`).
pub mod Telling
pub mod Calling
pub mod Answers
pub mod Scratch
pub mod Wild
pub mod CallList
pub mod Progress
pub mod PatternSet
pub mod ListCalls
pub mod SittingCalls
pub mod AnswerKey
