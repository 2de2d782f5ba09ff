pub mod HalfEdges
