pub mod Corners
pub mod Faces
pub mod Handles
pub mod Lending
pub mod Live
pub mod Linked
pub mod Opened
pub mod Voronoi
