-- What the contracts of the method's own functions cite.
pub mod HashMoves
pub mod HashWords
