pub mod Chained
pub mod Faces
pub mod KeptSoFar
pub mod LeftOut
pub mod Lines
pub mod Near
pub mod Parted
