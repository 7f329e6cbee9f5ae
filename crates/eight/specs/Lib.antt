-- In reading order: what is told of eight bits, and then what is claimed of it.
pub mod Eight
pub mod Claims
