pub mod Constraining
pub mod Keeping
pub mod LeftOut
pub mod Lines
pub mod Numbering
pub mod Outlining
pub mod Whole
