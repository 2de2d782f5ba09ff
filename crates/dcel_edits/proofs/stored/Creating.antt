-- What the writes leave that begin a mesh holds it: the outer face alone, a vertex more, the first edge, a triangle.
use Rattle.std.proofs.Common.{◌≡◌, ◌≢◌, ℕ, ◌-◌, ◌*◌, ◌^◌, ◌<◌, ◌≤◌, true, List, [], ◌∷◌, length, None, append-nil, zero-add, refl, ap, arith}
use Rattle.std.proofs.Math.Nat.{sub-zero}
use Rattle.std.proofs.lemmas.List.Elements.{All-cons, All-nil}
use Rattle.dcel_store.specs.Lists.{Lists, empty}
use Rattle.dcel_maps.specs.edits.DefaultData.{AddsEdge, AddsEdgesAndFaces}
use Rattle.dcel_maps.specs.Conditions.{HasRoom}
use Rattle.dcel_maps.specs.edits.Create.{first_edge_added, first_edge_alone, outer_alone, vertex_appended}
use Rattle.dcel_maps.specs.edits.Triangle.{triangle_alone}
use Rattle.dcel_maps.specs.Removals.{Closed, Removal}
use Rattle.dcel_maps.specs.Shapes.{IsMesh, Mesh, vertex_is_live}
use Rattle.dcel_maps.specs.Walks.{anchored_word, anchored_words}
use Rattle.dcel_maps.proofs.Liveness.{closed-vertex_live}
use Rattle.dcel_maps.proofs.edits.Adding.{adds_faces}
use Rattle.dcel_maps.proofs.edits.Alone.{alone_is_mesh, no_half_alone}
use Rattle.dcel_maps.proofs.edits.Appending.{appending, appending_is, appending_is_edit, vertices_appended}
use Rattle.dcel_maps.proofs.edits.Beginning.{beginning, beginning_is, beginning_is_edit}
use Rattle.dcel_maps.proofs.edits.Changes.{Change}
use Rattle.dcel_maps.proofs.edits.FirstTriangle.{first_triangle, first_triangle_is_edit}
use Rattle.dcel_edits.specs.Create.{CanBegin, first_edge_stored, vertices_stored}
use Rattle.dcel_edits.specs.Triangle.{triangle_stored}
use Rattle.dcel_edits.proofs.stored.Changes.{HoldsAdded, HoldsEdge, added_holds, change_holds, edge_holds, held_lists, held_mesh, held_vertex, lists_from_links, written}
use Rattle.dcel_edits.proofs.stored.Held.{lists_hold}
use Rattle.dcel_edits.proofs.stored.Holding.{Holds}

module _ {V DE UE F : Type 0} where
  -- the outer face alone, with so many reserved places
  abbrev pub face_alone : F → ℕ → ℕ → ℕ → Lists V DE UE F
  face_alone datum i j k = record empty { face_data = datum ∷ []; face_anchors = None ∷ []; vertex_room = i; edge_room = j; face_room = k }

  pub new_holds : (datum : F) (i j k : ℕ) → Holds (face_alone datum i j k) Closed (outer_alone datum)
  unfolding anchored_words anchored_word
  new_holds datum i j k =
      lists_hold (face_alone datum i j k) (outer_alone datum) (alone_is_mesh datum)
      (lists_from_links (face_alone datum i j k) Closed
      record {
        of_vertex_anchors = refl;
        of_next = refl;
        of_prev = refl;
        of_origin = refl;
        of_face = refl;
        of_directed_data = refl;
        of_face_anchors = refl;
      }
      record {
        vertices = refl;
        edges = refl;
        faces = refl;
        edge = λ u. refl;
        links = record {
          next = λ h live. absurd (no_half_alone h live);
          prev = λ h live. absurd (no_half_alone h live);
          origin = λ h live. absurd (no_half_alone h live);
          face = λ h live. absurd (no_half_alone h live);
        };
      })

  -- vertices pushed, and one alone
  vertices_hold : {s : Lists V DE UE F} {r : Removal} {m : Mesh V DE UE F} → Holds s r m → (vertices : List V)
      → HasRoom m.shape (length vertices) 0 0 → Holds (vertices_stored s vertices) r (vertices_appended m vertices)
  vertices_hold {s = s} {r = r} {m = m} held vertices room =
      let read : vertices_stored s vertices ≡ written s (appending vertices) = simp (append-nil, sub-zero) refl in
      rw (read, ← appending_is m vertices)
      (change_holds s r m (appending vertices) held (appending_is_edit m vertices (held_mesh s r m held) room))

  pub append_holds : {s : Lists V DE UE F} {r : Removal} {m : Mesh V DE UE F} → Holds s r m → HasRoom m.shape 1 0 0 → (datum : V)
      → Holds (vertices_stored s (datum ∷ [])) r (vertex_appended m datum)
  append_holds held room datum = vertices_hold held (datum ∷ []) room

-- the first edge
pub begin_can : {V DE UE F : Type 0} {s : Lists V DE UE F} {r : Removal} {m : Mesh V DE UE F} → Holds s r m → (a b : ℕ)
    → vertex_is_live m.shape a ≡ true → vertex_is_live m.shape b ≡ true → 0 < s.edge_room → CanBegin s a b
begin_can {s = s} {r = r} {m = m} held a b a_live b_live place =
    let mesh = held_mesh s r m held in
    record {
      place = place;
      first_in = held_vertex s r m held a a_live;
      second_in = held_vertex s r m held b b_live;
      outer = omega (arith, mesh.sized.outer, mesh.sized.face_anchors, ap length (held_lists s r m held).face_anchors);
    }

module _ {V DE UE F : Type 0} {s : Lists V DE UE F} {r : Removal} {m : Mesh V DE UE F} (held : Holds s r m) (a b : ℕ) (none : m.shape.edges ≡ 0)
    (a_live : vertex_is_live m.shape a ≡ true) (b_live : vertex_is_live m.shape b ≡ true) (apart : a ≢ b) (room : HasRoom m.shape 0 1 0) where
  mesh : IsMesh m
  mesh = held_mesh s r m held

  abbrev change : List DE → List UE → Change V DE UE F
  change halves edges = beginning (2 * m.shape.edges) a b halves edges

  read : (halves : List DE) (edges : List UE) → first_edge_stored s a b halves edges ≡ written s (change halves edges)
  read halves edges = rw none (simp (append-nil, sub-zero) refl)

  pub begun : {is_half : DE → Type 0} {is_edge : UE → Type 0} {t : Lists V DE UE F}
      → AddsEdge is_half is_edge t (first_edge_stored s a b) → HoldsEdge is_half is_edge t r (first_edge_added m a b)
  begun added =
      edge_holds held change (first_edge_added m a b) read
      (λ halves edges two one.
      (beginning_is m mesh none a b halves edges, beginning_is_edit m mesh none a b halves edges a_live b_live apart room two one))
      added

-- vertices in an empty mesh, and the first edge between two of them
module _ {V DE UE F : Type 0} (vertices : List V) (face : F) (i j k a b : ℕ) (a_in : a < length vertices) (b_in : b < length vertices)
    (few : length vertices ≤ 2 ^ 32) where
  abbrev fixed : Lists V DE UE F
  fixed = vertices_stored (face_alone face i j k) vertices

  abbrev fixed_mesh : Mesh V DE UE F
  fixed_mesh = vertices_appended (outer_alone face) vertices

  -- they hold a mesh, and the two are live there
  fixed_hold : Holds fixed Closed fixed_mesh × (vertex_is_live fixed_mesh.shape a ≡ true) × (vertex_is_live fixed_mesh.shape b ≡ true)
  fixed_hold = (
    vertices_hold (new_holds face i j k) vertices record { for_vertices = omega (arith, few); for_edges = omega arith; for_faces = omega arith },
    closed-vertex_live fixed_mesh.shape refl a (omega (arith, a_in)),
    closed-vertex_live fixed_mesh.shape refl b (omega (arith, b_in)),
  )

  pub fixed_begun : a ≢ b → {is_half : DE → Type 0} {is_edge : UE → Type 0} {is_face : F → Type 0} {t : Lists V DE UE F} → is_face face
      → AddsEdge is_half is_edge t (first_edge_stored fixed a b) → HoldsAdded is_half is_edge is_face 1 1 t Closed (first_edge_alone vertices a b)
  fixed_begun apart {is_face = is_face} default added =
      let (held, a_live, b_live) = fixed_hold in
      let room : HasRoom fixed_mesh.shape 0 1 0 = record { for_vertices = omega (arith, few); for_edges = omega arith; for_faces = omega arith } in
      let edge = begun held a b refl a_live b_live apart room added in
      record { stored = edge.stored; edit = adds_faces edge.edit (face ∷ []) (All-cons is_face face [] default (All-nil is_face)) (λ halves edges. rw (zero-add (length vertices)) refl) }

-- a triangle
module _ {V DE UE F : Type 0} (s : Lists V DE UE F) (vertices : V × V × V) where
  triangle_hold : (halves : List DE) (edges : List UE) (faces : List F) → length halves ≡ 6 → length edges ≡ 3 → length faces ≡ 2
      → Holds (triangle_stored s vertices halves edges faces) Closed (triangle_alone vertices halves edges faces)
  triangle_hold halves edges [] six three two = absurd (omega (arith, two))
  triangle_hold halves edges (f ∷ []) six three two = absurd (omega (arith, two))
  triangle_hold halves edges (f ∷ g ∷ []) six three two =
      let alone : Lists V DE UE F = face_alone f s.vertex_room s.edge_room (s.face_room - 1) in
      let rooms : s.face_room - 1 - 1 ≡ s.face_room - 2 = omega arith in
      rw (← rooms) (change_holds alone Closed (outer_alone f) (first_triangle vertices halves edges g) (new_holds f s.vertex_room s.edge_room (s.face_room - 1))
      (first_triangle_is_edit vertices halves edges f g six three))
  triangle_hold halves edges (f ∷ g ∷ h ∷ faces) six three two = absurd (omega (arith, two))

  module _ {is_half : DE → Type 0} {is_edge : UE → Type 0} {is_face : F → Type 0} {t : Lists V DE UE F} where
    pub triangle_holds : AddsEdgesAndFaces is_half is_edge is_face 3 2 t (triangle_stored s vertices)
        → HoldsAdded is_half is_edge is_face 3 2 t Closed (triangle_alone vertices)
    triangle_holds added = added_holds Closed _ added triangle_hold
