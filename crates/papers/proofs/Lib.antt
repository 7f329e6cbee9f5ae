-- The proof of the one claim.
pub mod Papers
