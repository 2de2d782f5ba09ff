pub mod Powers
pub mod Long
pub mod Moved
pub mod Signed
pub mod Scaled
pub mod Floors
pub mod Halvings
pub mod Gridding
