-- What the contracts of the method's own functions cite, and what is claimed of the rows that they make.
pub mod RowCells
pub mod RowBytes
