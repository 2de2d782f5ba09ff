-- What each operation does to a mesh, family by family.
pub mod Create
pub mod Data
pub mod Degenerate
pub mod DefaultData
pub mod Fill
pub mod Flip
pub mod Line
pub mod Outside
pub mod Rename
pub mod Split
pub mod Strip
pub mod Triangle
pub mod Whole
