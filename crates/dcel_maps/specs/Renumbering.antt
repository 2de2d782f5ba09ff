-- Renumbering: an element is taken out, and the last of its kind gets its number. Whatever isn't named stays as it was.
use Rattle.std.specs.Prelude.{ℕ, suc, ◌+◌, ◌-◌, ◌*◌, ◌/◌, ◌%◌, ◌==◌, not, List, [], ◌∷◌, length, map, take, drop, slice_set, cond, option_map, fold, filter, reverse, Some, None}
use Rattle.dcel_maps.specs.Cyclic.{from_least}
use Rattle.dcel_maps.specs.Numbers.{numbers_between}
use Rattle.dcel_maps.specs.Removals.{Removal, Closed, Isolated, Cleaned}
use Rattle.dcel_maps.specs.Shapes.{Mesh, Shape}

-- a list with these items in the places from d on
abbrev pub set_from : {A : Type 0} → List A → ℕ → List A → List A
set_from xs d [] = xs
set_from xs d (y ∷ ys) = set_from (slice_set xs d y) (suc d) ys

-- the last n items are put at place d, and the last n places are dropped
unfoldable pub last_put : {A : Type 0} → ℕ → List A → ℕ → List A
last_put n xs d = take (length xs - n) (set_from xs d (drop (length xs - n) xs))

-- of the names 0 to n - 1 the last is put at place d, and the last place is dropped, for each d of a list in turn: what was k is then j
-- where k stands at place j
abbrev pub renumbered : ℕ → List ℕ → List ℕ
renumbered n ds = fold (last_put 1) (numbers_between 0 n) ds

-- the number k, once the last one is put at place d
unfoldable pub moved : ℕ → ℕ → ℕ → ℕ
moved last d k = cond (k == last) d k

-- what number k becomes once each d of a list is taken out in turn
unfoldable pub new_number : ℕ → List ℕ → ℕ → ℕ
new_number n [] k = k
new_number n (d ∷ ds) k = new_number (n - 1) ds (moved (n - 1) d k)

-- where edges have the numbers r, a half edge goes with its edge, and keeps its last bit
unfoldable pub half_of : (ℕ → ℕ) → ℕ → ℕ
half_of r h = 2 * r (h / 2) + h % 2

-- the record, once one thing that was given up is taken out
abbrev pub without_edge : Removal → ℕ → Removal
without_edge Closed d = Closed
without_edge (Isolated edges faces vertex) d = Isolated (filter (λ e. not (e == d)) edges) faces vertex
without_edge (Cleaned vertex) d = Cleaned vertex

abbrev pub without_face : Removal → ℕ → Removal
without_face Closed d = Closed
without_face (Isolated edges faces vertex) d = Isolated edges (filter (λ f. not (f == d)) faces) vertex
without_face (Cleaned vertex) d = Cleaned vertex

-- the record, once all edges and faces are taken out: a vertex that was given up is still there
abbrev pub cleaned : Removal → Removal
cleaned Closed = Closed
cleaned (Isolated edges faces None) = Closed
cleaned (Isolated edges faces (Some vertex)) = Cleaned vertex
cleaned (Cleaned vertex) = Cleaned vertex

-- the edges and the faces that are given up, from the largest down
abbrev pub edges_down : Removal → List ℕ
edges_down Closed = []
edges_down (Isolated edges faces vertex) = reverse edges
edges_down (Cleaned vertex) = []

abbrev pub faces_down : Removal → List ℕ
faces_down Closed = []
faces_down (Isolated edges faces vertex) = reverse faces
faces_down (Cleaned vertex) = []

-- edge d is taken out of a shape: half edges follow in words and origins
abbrev pub shape_without_edge : Shape → ℕ → Shape
shape_without_edge s d =
    let last = s.edges - 1 in
    record s {
      edges = last;
      words = map (λ w. from_least (map (half_of (moved last d)) w)) s.words;
      origins = last_put 2 s.origins (2 * d);
      removal = without_edge s.removal d;
    }

-- face d: its word goes
abbrev pub shape_without_face : Shape → ℕ → Shape
shape_without_face s d = record s { words = last_put 1 s.words d; removal = without_face s.removal d }

-- vertex d: origins follow, and nothing is given up any more
abbrev pub shape_without_vertex : Shape → ℕ → Shape
shape_without_vertex s d =
    let last = s.vertices - 1 in
    record s { vertices = last; origins = map (moved last d) s.origins; removal = Closed }

module _ {V DE UE F : Type 0} where
  -- the same of a mesh: data follow, and anchors stay with their vertex or face
  abbrev pub edge_taken_out : Mesh V DE UE F → ℕ → Mesh V DE UE F
  edge_taken_out m d =
      let half = half_of (moved (m.shape.edges - 1) d) in
      record m {
        shape = shape_without_edge m.shape d;
        vertex_anchors = map (option_map half) m.vertex_anchors;
        face_anchors = map (option_map half) m.face_anchors;
        directed_data = last_put 2 m.directed_data (2 * d);
        undirected_data = last_put 1 m.undirected_data d;
      }

  abbrev pub face_taken_out : Mesh V DE UE F → ℕ → Mesh V DE UE F
  face_taken_out m d = record m {
    shape = shape_without_face m.shape d;
    face_anchors = last_put 1 m.face_anchors d;
    face_data = last_put 1 m.face_data d;
  }

  -- `swap_remove_vertex`
  abbrev pub vertex_taken_out : Mesh V DE UE F → ℕ → Mesh V DE UE F
  vertex_taken_out m d = record m {
    shape = shape_without_vertex m.shape d;
    vertex_anchors = last_put 1 m.vertex_anchors d;
    vertex_data = last_put 1 m.vertex_data d;
  }

  -- edges, and faces, taken out one after another
  abbrev pub edges_taken_out : Mesh V DE UE F → List ℕ → Mesh V DE UE F
  edges_taken_out m ds = fold edge_taken_out m ds

  abbrev pub faces_taken_out : Mesh V DE UE F → List ℕ → Mesh V DE UE F
  faces_taken_out m ds = fold face_taken_out m ds

  -- the mesh with another removal record
  abbrev pub with_removal : Mesh V DE UE F → Removal → Mesh V DE UE F
  with_removal m r = record m { shape = record m.shape { removal = r } }

  -- `cleanup_isolated_vertex`: the edges that are given up are taken out from the largest down, and then the faces
  abbrev pub cleaned_up : Mesh V DE UE F → Mesh V DE UE F
  cleaned_up m =
      let r = m.shape.removal in
      with_removal (faces_taken_out (edges_taken_out m (edges_down r)) (faces_down r)) (cleaned r)
