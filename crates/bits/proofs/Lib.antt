-- The laws of bits, stated once over the width. Whoever reads bits cites these and not the definitions' text.
pub mod Weight
pub mod Run
pub mod Loads
pub mod Padding
pub mod Examples
