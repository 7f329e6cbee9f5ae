-- The one claim.
pub mod Papers
