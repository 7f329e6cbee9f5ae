-- The laws of the plain method's tables and steps.
pub mod Between
pub mod Shifts
pub mod RowCells
pub mod RowsMade
pub mod RowBytes
pub mod RowExamples
pub mod PlainSteps
