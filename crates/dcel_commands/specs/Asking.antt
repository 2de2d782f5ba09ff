-- What several lines ask.
use Rattle.std.specs.Prelude.{ℕ, List, [], ◌∷◌, ◌++◌}
use Rattle.dcel_commands.specs.declared.refusal.Refusal.TheVariants.{NoSuchVertex, NoSuchEdge, NoSuchFace, GivenUp, SameVertex, VertexInUse}
use Rattle.dcel_commands.specs.Conditions.{Entry, VertexInRange, HalfEdgeInRange, HalfEdgeLive, VertexLive, Different, Unconnected, EdgesInRange, InnerFacesInRange}

-- both vertices are live
abbrev pub live_vertices : ℕ → ℕ → List Entry
live_vertices a b =
    (NoSuchVertex, VertexInRange a)
    ∷ (NoSuchVertex, VertexInRange b)
    ∷ (GivenUp, VertexLive a)
    ∷ (GivenUp, VertexLive b)
    ∷ []

-- they are live, and not the same
abbrev pub two_vertices : ℕ → ℕ → List Entry
two_vertices a b = live_vertices a b ++ (SameVertex, Different a b) ∷ []

-- the half edge and the vertex are live, and the vertex has no edge
abbrev pub edge_and_vertex : ℕ → ℕ → List Entry
edge_and_vertex h v =
    (NoSuchVertex, VertexInRange v)
    ∷ (NoSuchEdge, HalfEdgeInRange h)
    ∷ (GivenUp, HalfEdgeLive h)
    ∷ (GivenUp, VertexLive v)
    ∷ (VertexInUse, Unconnected v)
    ∷ []

-- each edge is in range, and each face is an inner face
abbrev pub edges_and_faces : List ℕ → List ℕ → List Entry
edges_and_faces us fs = (NoSuchEdge, EdgesInRange us) ∷ (NoSuchFace, InnerFacesInRange fs) ∷ []
