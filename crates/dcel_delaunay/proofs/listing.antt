pub mod Corners
pub mod Elements
pub mod Faces
pub mod Known
pub mod Numbers
pub mod Seen
pub mod TooMany
