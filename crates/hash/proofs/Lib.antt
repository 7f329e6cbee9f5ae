-- The laws of the hash method's steps.
pub mod HashSteps
