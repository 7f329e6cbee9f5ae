-- The laws of H by itself and of the hash method's tables.
pub mod HashValues
pub mod HashTables
pub mod HashWords
pub mod HashRows
