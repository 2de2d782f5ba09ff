-- What writing vertices and a first edge leaves in the stored lists, and where the edge can be written.
use Rattle.std.specs.Prelude.{ℕ, ◌-◌, ◌<◌, List, [], ◌∷◌, ◌++◌, length, replicate, slice_set, Some, None}
use Rattle.dcel_store.specs.Lists.{Lists}
use Rattle.dcel_edits.specs.Adding.{adding_edges}

module _ {V DE UE F : Type 0} where
  -- more vertices, without anchors
  abbrev pub vertices_stored : Lists V DE UE F → List V → Lists V DE UE F
  vertices_stored s vertices = record s {
    vertex_data = s.vertex_data ++ vertices;
    vertex_anchors = s.vertex_anchors ++ replicate (length vertices) None;
    vertex_room = s.vertex_room - length vertices;
  }

  -- edge 0 from a to b, on the outer face
  abbrev pub first_edge_stored : Lists V DE UE F → ℕ → ℕ → List DE → List UE → Lists V DE UE F
  first_edge_stored s a b halves edges = record (adding_edges s 1 halves edges) {
    next = s.next ++ 1 ∷ 0 ∷ [];
    prev = s.prev ++ 1 ∷ 0 ∷ [];
    origin = s.origin ++ a ∷ b ∷ [];
    face = s.face ++ 0 ∷ 0 ∷ [];
    vertex_anchors = slice_set (slice_set s.vertex_anchors a (Some 0)) b (Some 1);
    face_anchors = slice_set s.face_anchors 0 (Some 0);
  }

  -- where it can be written
  pub record CanBegin (s : Lists V DE UE F) (a b : ℕ) : Type 0 where
    pub place : 0 < s.edge_room
    pub first_in : a < length s.vertex_anchors
    pub second_in : b < length s.vertex_anchors
    pub outer : 0 < length s.face_anchors
