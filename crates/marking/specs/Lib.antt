-- What the crate promises, in reading order: what a sheet comes to, by membership; a sitting, with its refusals; the promise of
-- the call. `Holds` is what follows for every accepted call. `Inner` is what the private functions promise each other.
pub mod Marks
pub mod Sitting
pub mod Promise
pub mod Holds
pub mod Inner
