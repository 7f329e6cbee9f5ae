-- What the parts of the tail method promise each other.
pub mod Lengths
