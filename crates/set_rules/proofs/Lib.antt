-- The small papers, then the laws of the definitions and the theorems about them; the files have the names of those in specs/, and
-- `Padding` is about the bits of a text from n on.
pub mod Examples
pub mod Hits
pub mod SetMachine
pub mod Order
pub mod Padding
