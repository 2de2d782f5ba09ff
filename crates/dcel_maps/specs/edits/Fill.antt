-- The opening of a removal by filling the hole: what is given up leaves a ring, which is cut into triangles. Before the call there are m
-- undirected edges; a new edge m has the half edges 2m and 2m + 1. Whatever an edit doesn't name stays as it was.
use Rattle.std.specs.Prelude.{◌≡◌, ℕ, suc, ◌+◌, ◌-◌, ◌*◌, ◌/◌, ◌≤◌, List, [], ◌∷◌, ◌++◌, length, map, reverse, slice_set, Option, Some}
use Rattle.dcel_maps.specs.Conditions.{HasRoom}
use Rattle.dcel_maps.specs.Cyclic.{from_least}
use Rattle.dcel_maps.specs.Hiding.{kept_words, kept_vertex_anchors, kept_face_anchors}
use Rattle.dcel_maps.specs.Regions.{LiesInside, inside}
use Rattle.dcel_maps.specs.Removals.{Closed, Removal, gives_up_edge, opened, opened_with, shown}
use Rattle.dcel_maps.specs.Shapes.{Mesh, Shape, face_of, origin_of}
use Rattle.dcel_maps.specs.Walking.{out_edges_of}
use Rattle.dcel_maps.specs.edits.DefaultData.{AddsEdgesAndFaces}

-- what filling asks: no removal is open, these edges and faces, and this vertex if there is one, lie inside the border, and there are numbers
-- for the new edges and faces
pub record CanFill (s : Shape) (border edges faces : List ℕ) (vertex : Option ℕ) : Type 0 where
  pub closed : s.removal ≡ Closed
  pub many : 3 ≤ length border
  pub inside : LiesInside s border edges faces vertex
  pub room : HasRoom s 0 (length border - 3) (length border - 2)

-- an edit that fills the hole inside a border: three fewer edges than the border has, and two fewer faces, with default data
abbrev pub FillsHole : {X DE UE F : Type 0} → (DE → Type 0) → (UE → Type 0) → (F → Type 0) → List ℕ → X → (List DE → List UE → List F → X) → Type 0
FillsHole is_half is_edge is_face border new edit =
    AddsEdgesAndFaces is_half is_edge is_face (length border - 3) (length border - 2) new edit

-- The ears of a ring (p, q, r, ..): the new edge m cuts off (p, q, 2m), and its other half leads the ring that is left,
-- (2m + 1, r, ..), which the next edge cuts; a ring of three is the last ear.
abbrev pub ears : ℕ → ℕ → ℕ → ℕ → List ℕ → List (List ℕ)
ears m p q r [] = from_least (p ∷ q ∷ r ∷ []) ∷ []
ears m p q r (x ∷ rest) = from_least (p ∷ q ∷ 2 * m ∷ []) ∷ ears (suc m) (2 * m + 1) r x rest

-- where the halves of the new edges start: 2m where q ends, which is where r starts, and 2m + 1 at the vertex that all ears share
abbrev pub ear_origins : (ℕ → ℕ) → ℕ → ℕ → List ℕ → List ℕ
ear_origins origin apex r [] = []
ear_origins origin apex r (x ∷ rest) = origin r ∷ apex ∷ ear_origins origin apex x rest

-- the anchors of the ears: 2m of each, and of the last one its first half edge
abbrev pub ear_anchors : ℕ → ℕ → List ℕ → List (Option ℕ)
ear_anchors m p [] = Some p ∷ []
ear_anchors m p (x ∷ rest) = Some (2 * m) ∷ ear_anchors (suc m) (2 * m + 1) rest

-- the anchors of the vertices of the ring: each ear gives q to the origin of q; the last one gives r, q and p to theirs, in this order
abbrev pub anchors_round : (ℕ → ℕ) → ℕ → List (Option ℕ) → ℕ → ℕ → ℕ → ℕ → List ℕ → List (Option ℕ)
anchors_round origin apex anchors m p q r [] =
    slice_set (slice_set (slice_set anchors (origin r) (Some r)) (origin q) (Some q)) apex (Some p)
anchors_round origin apex anchors m p q r (x ∷ rest) =
    anchors_round origin apex (slice_set anchors (origin q) (Some q)) (suc m) (2 * m + 1) r x rest

module _ {V DE UE F : Type 0} where
  -- what the record names is given up, and the ring (p, q, r, ..) is cut into ears
  abbrev pub ring_filled : Mesh V DE UE F → Removal → ℕ → ℕ → ℕ → List ℕ → List DE → List UE → List F → Mesh V DE UE F
  ring_filled mesh removal p q r rest halves edges faces =
      let s = mesh.shape in
      let m = s.edges in
      let apex = origin_of s p in
      record mesh {
        shape = record s {
          edges = m + length rest;
          words = kept_words removal s.words ++ ears m p q r rest;
          origins = shown (gives_up_edge removal) s.origins ++ ear_origins (origin_of s) apex r rest;
          removal = removal;
        };
        vertex_anchors = kept_vertex_anchors removal (anchors_round (origin_of s) apex mesh.vertex_anchors m p q r rest);
        face_anchors = kept_face_anchors removal mesh.face_anchors ++ ear_anchors m p rest;
        directed_data = mesh.directed_data ++ halves;
        undirected_data = mesh.undirected_data ++ edges;
        face_data = mesh.face_data ++ faces;
      }

  -- a ring is a border loop read from its end
  abbrev pub loop_filled : Mesh V DE UE F → Removal → List ℕ → List DE → List UE → List F → Mesh V DE UE F
  loop_filled mesh removal (p ∷ q ∷ r ∷ rest) halves edges faces = ring_filled mesh removal p q r rest halves edges faces
  loop_filled mesh removal _ halves edges faces = mesh

  abbrev pub border_filled : Mesh V DE UE F → Removal → List ℕ → List DE → List UE → List F → Mesh V DE UE F
  border_filled mesh removal border = loop_filled mesh removal (reverse border)

  -- the edges at v and the faces round it, in the order of its out edges
  abbrev pub edges_at : Mesh V DE UE F → ℕ → List ℕ
  edges_at mesh v = map (λ h. h / 2) (out_edges_of mesh v)

  abbrev pub faces_at : Mesh V DE UE F → ℕ → List ℕ
  faces_at mesh v = map (face_of mesh.shape) (out_edges_of mesh v)

  -- `isolate_vertex_and_fill_hole`: v is given up with these
  abbrev pub hole_filled : Mesh V DE UE F → ℕ → List ℕ → List DE → List UE → List F → Mesh V DE UE F
  hole_filled mesh v border = border_filled mesh (opened (edges_at mesh v) (faces_at mesh v) v) border

  -- `remesh_edge_ring`: these edges and faces are given up, and the vertex inside the ring if there is one
  abbrev pub ring_remeshed : Mesh V DE UE F → List ℕ → List ℕ → List ℕ → List DE → List UE → List F → Mesh V DE UE F
  ring_remeshed mesh border gone_edges gone_faces =
      border_filled mesh (opened_with gone_edges gone_faces (inside mesh.shape border gone_edges gone_faces)) border
