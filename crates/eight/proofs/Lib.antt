-- Small papers by computation, the byte that is shown, how two loads give it, the claims about every read, and what changed.
pub mod Examples
pub mod ShownByte
pub mod Loads
pub mod ReadClaims
pub mod FormerCall
