pub mod Texts
pub mod Digits
pub mod Scaling
pub mod Floors
pub mod Grids
pub mod Steps
