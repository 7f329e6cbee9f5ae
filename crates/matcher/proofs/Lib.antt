-- Laws that the methods share.
pub mod Chunks
pub mod Words
pub mod SingleBits
pub mod AllFixed
pub mod Lined
pub mod LinedCells
pub mod Progress
pub mod Writing
pub mod Advancing
pub mod Shifted
pub mod Compared
pub mod Rest
