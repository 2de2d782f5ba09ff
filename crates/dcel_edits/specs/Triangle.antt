-- What writing a first triangle, or a vertex into a triangle, leaves in the stored lists.
use Rattle.std.specs.Prelude.{◌≡◌, ℕ, ◌+◌, ◌-◌, ◌<◌, List, [], ◌∷◌, ◌++◌, length, slice_index, slice_set, Some}
use Rattle.dcel_store.specs.Lists.{Lists}
use Rattle.dcel_edits.specs.Adding.{HasSpace, adding}
use Rattle.dcel_edits.specs.Around.{stored_around}

-- three items of a list replaced
abbrev pub three_set : List ℕ → ℕ → ℕ → ℕ → ℕ → ℕ → ℕ → List ℕ
three_set l i a j b k c = slice_set (slice_set (slice_set l i a) j b) k c

module _ {V DE UE F : Type 0} where
  -- a triangle in an empty store
  abbrev pub triangle_stored : Lists V DE UE F → V × V × V → List DE → List UE → List F → Lists V DE UE F
  triangle_stored s vertices halves edges faces = record {
    vertex_data = vertices.0 ∷ vertices.1 ∷ vertices.2 ∷ [];
    vertex_anchors = Some 0 ∷ Some 2 ∷ Some 4 ∷ [];
    next = 2 ∷ 5 ∷ 4 ∷ 1 ∷ 0 ∷ 3 ∷ [];
    prev = 4 ∷ 3 ∷ 0 ∷ 5 ∷ 2 ∷ 1 ∷ [];
    origin = 0 ∷ 1 ∷ 1 ∷ 2 ∷ 2 ∷ 0 ∷ [];
    face = 0 ∷ 1 ∷ 0 ∷ 1 ∷ 0 ∷ 1 ∷ [];
    directed_data = halves;
    undirected_data = edges;
    face_data = faces;
    face_anchors = Some 0 ∷ Some 1 ∷ [];
    vertex_room = s.vertex_room - 3;
    edge_room = s.edge_room - 3;
    face_room = s.face_room - 2;
  }

module _ {V DE UE F : Type 0} (s : Lists V DE UE F) (first : ℕ) where
  open (stored_around s first) use {n, l, f, after as second, before as third, start}

  -- the vertex `tip` in the triangle of the half edge `first`: the half edges 2m + 1, 2m + 3 and 2m + 5 lead from it to the corners, and
  -- 2m, 2m + 2 and 2m + 4 back
  abbrev pub insertion_stored : ℕ → List DE → List UE → List F → Lists V DE UE F
  insertion_stored tip halves edges faces = record (adding s 3 2 halves edges faces) {
    next = three_set s.next first n second (n + 2) third (n + 4)
        ++ (n + 5) ∷ second ∷ (n + 1) ∷ third ∷ (n + 3) ∷ first ∷ [];
    prev = three_set s.prev first (n + 5) second (n + 1) third (n + 3)
        ++ first ∷ (n + 2) ∷ second ∷ (n + 4) ∷ third ∷ n ∷ [];
    origin = s.origin
        ++ slice_index s.origin second ∷ tip ∷ slice_index s.origin third ∷ tip ∷ start ∷ tip ∷ [];
    face = three_set s.face first f second l third (l + 1) ++ f ∷ l ∷ l ∷ (l + 1) ∷ (l + 1) ∷ f ∷ [];
    vertex_anchors = slice_set s.vertex_anchors tip (Some (n + 1));
    face_anchors = s.face_anchors ++ Some second ∷ Some third ∷ [];
  }

module _ {V DE UE F : Type 0} where
  -- where a vertex can be inserted
  pub record CanInsert (s : Lists V DE UE F) (first tip : ℕ) : Type 0 where
    pub space : HasSpace s 3 2
    pub first_in : first < length s.next
    pub second_in : slice_index s.next first < length s.next
    pub third_in : slice_index s.prev first < length s.next
    pub tip_in : tip < length s.vertex_anchors
