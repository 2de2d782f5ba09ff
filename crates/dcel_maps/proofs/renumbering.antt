-- Elements that are taken out: the numbers and places of those that stay, and that what is left is a mesh.
pub mod LastPut
pub mod Moves
pub mod Numbers
pub mod Records
pub mod OneByOne
pub mod Edges
pub mod Ends
pub mod Faces
pub mod Vertices
pub mod Meshes
pub mod AllEdges
pub mod AllFaces
pub mod GivenUp
pub mod Cleanup
pub mod Renumbered
pub mod TakenBack
