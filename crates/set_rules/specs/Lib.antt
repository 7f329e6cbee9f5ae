-- What a search for a set of patterns finds and answers, in document 02's order: a reader believes these definitions. Then come
-- a set in another order, and small papers.
pub mod PatternSet
pub mod Hits
pub mod SetMachine
pub mod Verdict
pub mod Order
pub mod Examples
