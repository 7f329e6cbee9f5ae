-- The laws of the tail method's masks, of the lengths that they leave, and of its steps.
pub mod TailMasks
pub mod TailLengths
pub mod TailSteps
