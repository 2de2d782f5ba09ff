pub mod Floats
pub mod Rounding
pub mod Grids
pub mod Binaries
