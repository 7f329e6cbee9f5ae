-- What the contracts of the crate cite, the claim about two calls (`CallToCall`), and what follows from the order of the reader's
-- refusals (`BadFileFirst`).
pub mod Basics
pub mod Rising
pub mod Encode
pub mod Decode
pub mod Promise
pub mod CallToCall
pub mod BadFileFirst
pub mod Inner
