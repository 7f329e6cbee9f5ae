-- Laws that the proofs of several functions cite, and the theorems about the definitions.
pub mod Reading
pub mod Input
pub mod Bits
pub mod Decimal
pub mod Appending
pub mod Putting
pub mod Examples
