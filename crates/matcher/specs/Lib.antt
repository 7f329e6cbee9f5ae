-- What the methods' contracts cite: what their tables hold, and what a step promises.
pub mod Words
pub mod Lined
pub mod Tables
pub mod Ready
pub mod Asked
pub mod Progress
pub mod Gives
