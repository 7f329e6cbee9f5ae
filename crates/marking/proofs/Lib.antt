-- `Holds` has the theorem about every accepted call, `Members` what right, missed and false mean by membership, `Examples` small sittings.
-- The others are laws that these and the functions' proofs cite: `Merging` of the merge at an index, `Counting` of counts and sheets,
-- `Reporting` of the report and its totals, `Verdicts` of the refusals and the promise.
pub mod Members
pub mod Merging
pub mod Counting
pub mod Reporting
pub mod Verdicts
pub mod Holds
pub mod Examples
