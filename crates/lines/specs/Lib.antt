-- What the contracts of the crate cite.
pub mod Input
pub mod Packing
pub mod Line
pub mod Inner
