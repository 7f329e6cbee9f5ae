-- What the call for a set of patterns promises, and what is claimed of every list of calls: a reader believes the first two files,
-- over the definitions of the crate `set_rules`. Then come what a set of one pattern is to the plain search, and when a search
-- goes on. The last files say what the parts of a call promise each other; what the tables hold is said in the crate `set_tables`.
pub mod Promise
pub mod Calls
pub mod Single
pub mod Progress
pub mod Ones
pub mod Lengths
pub mod Parts
