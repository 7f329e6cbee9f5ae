-- What the contracts of the functions that make and ask the tables cite.
pub mod SkipChains
