-- `RoundTrip` has the theorems about the file, `CallToCall` those about a call of the writer and one of the reader, `BadFileFirst` what
-- follows from 14 being the reader's last refusal, `FormerOrder` which answers changed when it became that, `StrictlyRising` what a list
-- that the writer takes is, `Examples` the examples of the table of refusals and edges.
-- The others are laws that these and the functions' proofs cite: `Groups` and `Rising` of what is written, `ReadGroups`, `ReadBody`
-- and `Decoded` of what is read, `Stores` and `Answers` of buffers and answers, `ReadBack` and `Accepted` of the two directions.
pub mod Examples
pub mod RoundTrip
pub mod CallToCall
pub mod BadFileFirst
pub mod FormerOrder
pub mod Groups
pub mod Rising
pub mod StrictlyRising
pub mod ReadGroups
pub mod ReadBody
pub mod Decoded
pub mod Stores
pub mod Answers
pub mod ReadBack
pub mod Accepted
