-- The laws of the wide method's tables and steps.
pub mod WideTables
pub mod WideBytes
pub mod WideMoves
pub mod WideScan
pub mod WideFlags
