-- What the program prints, and what is claimed of it: a reader believes these definitions. `Report` is what its functions
-- promise each other.
pub mod Printed
pub mod Claims
pub mod Report
