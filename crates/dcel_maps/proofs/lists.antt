-- The list of elementary edits of each edit of a mesh.
pub mod Made
pub mod Growing
pub mod Beginning
pub mod Filling
pub mod Removing
