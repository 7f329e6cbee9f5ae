-- Laws of the skip method's places and steps.
pub mod SkipPlaces
pub mod SkipSizes
pub mod SkipStep
