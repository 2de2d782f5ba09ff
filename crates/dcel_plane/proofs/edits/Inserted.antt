-- A vertex put into a triangle of a mesh in the plane.
use Rattle.std.proofs.Common.{◌≡◌, ℕ, ◌+◌, ◌*◌, ◌/◌, ◌<◌, List, [], ◌∷◌, ◌++◌, length, Option, Some, None, unwrap_or, refl, sym, ap, ◌∙◌, subst, arith}
use Rattle.dcel_predicates.specs.declared.point.Point.{Point}
use Rattle.dcel_maps.specs.Conditions.{IsTriangle}
use Rattle.dcel_maps.specs.edits.Triangle.{vertex_inserted}
use Rattle.dcel_maps.specs.Removals.{gives_up_face}
use Rattle.dcel_maps.specs.Shapes.{AnchorsWord, IsLive, IsMesh, Mesh, Shape, adjacent_edge_of, face_anchor, face_count, map_of, next_of, origin_of, prev_of}
use Rattle.dcel_maps.specs.Words.{count_of, word_of}
use Rattle.dcel_maps.proofs.Liveness.{is_live-parts}
use Rattle.dcel_maps.proofs.edits.Inserts.{anchored_triangle}
use Rattle.dcel_maps.proofs.edits.Patches.{Patch, pushing}
use Rattle.dcel_maps.proofs.maps.Triangles.{IsTriangleOf}
use Rattle.dcel_maps.proofs.words.Mapped.{count-at}
use Rattle.dcel_plane.specs.Edges.{edges_inserted}
use Rattle.dcel_plane.specs.Plane.{LiesInFace, ListsCircled, TrianglesTurnLeft, TurnsLeft}
use Rattle.dcel_plane.proofs.edits.Corners.{corners_are, left_same, of_three, seen}
use Rattle.dcel_plane.proofs.edits.Written.{IsWritten, Leads, origin_away, origin_more, written_lists, written_plane}

-- the anchor of a word of three
anchored_by : (w : List ℕ) (o : Option ℕ) → AnchorsWord w o → length w ≡ 3 → (a : ℕ) × (o ≡ Some a)
anchored_by w None is three = absurd (let e = ap length is in omega (arith, e, three))
anchored_by w (Some a) is three = (a, refl)

-- the triangle round the anchor of a face
pub round_anchor : {V DE UE F : Type 0} (m : Mesh V DE UE F) → IsMesh m → (f : ℕ) → IsTriangle m.shape f
    → IsTriangleOf (map_of m.shape) f (adjacent_edge_of m f) (next_of m.shape (adjacent_edge_of m f)) (prev_of m.shape (adjacent_edge_of m f))
round_anchor m mesh f triangle =
    let below = (is_live-parts (gives_up_face m.shape.removal) (face_count m.shape) f triangle.live).0 in
    let (a, anchor) = anchored_by (word_of m.shape.words f) (face_anchor m f) (mesh.anchored.faces f below) triangle.three in
    let is : adjacent_edge_of m f ≡ a = ap (λ o. unwrap_or o 0) anchor in
    subst (λ (k : ℕ). IsTriangleOf (map_of m.shape) f k (next_of m.shape k) (prev_of m.shape k)) (sym is) (anchored_triangle m mesh f a triangle anchor)

module _ {V DE UE F : Type 0} (m : Mesh V DE UE F) (mesh : IsMesh m) (v f : ℕ) (triangle : IsTriangle m.shape f) (halves : List DE) (edges : List UE) (faces : List F) (at : ℕ → Point) where
  abbrev s : Shape
  s = m.shape

  abbrev t : Shape
  t = (vertex_inserted m v f halves edges faces).shape

  abbrev n : ℕ
  n = 2 * m.shape.edges

  abbrev a : ℕ
  a = adjacent_edge_of m f

  abbrev b : ℕ
  b = next_of m.shape a

  abbrev c : ℕ
  c = prev_of m.shape a

  abbrev pub words : Patch (List ℕ)
  words = record { set = (f, a ∷ n ∷ (n + 5) ∷ []) ∷ []; more = (b ∷ (n + 2) ∷ (n + 1) ∷ []) ∷ (c ∷ (n + 4) ∷ (n + 3) ∷ []) ∷ [] }

  abbrev pub origins : Patch ℕ
  origins = pushing (origin_of m.shape b ∷ v ∷ origin_of m.shape c ∷ v ∷ origin_of m.shape a ∷ v ∷ [])

  pub written : IsWritten s t words origins
  written = record { words_are = refl; origins_are = refl; many = mesh.sized.origins; starts_stay = λ h live inner away. tt }

  pub was : IsTriangleOf (map_of s) f a b c
  was = round_anchor m mesh f triangle

  pub old : (h : ℕ) → IsLive s h → origin_of s h ≡ origin_of t h
  old h live = sym (origin_away at s t words origins written mesh.sound h live tt)

  leads : (k p q r : ℕ) → TurnsLeft (at (origin_of t p)) (at (origin_of t q)) (at (origin_of t r)) → Leads at s t words origins written mesh.sound k (p ∷ q ∷ r ∷ [])
  leads k p q r left x y z inner is = left_same at t p q r x y z is left

  module _ (lies : LiesInFace at s f (at v)) where
    pub first_side : TurnsLeft (at (origin_of s a)) (at (origin_of s b)) (at v)
    first_side = seen at s (at v) a b mesh.sound was.live_x (mesh.sound.joined a was.live_x) (lies a was.live_x was.face_x)

    pub second_side : TurnsLeft (at (origin_of s b)) (at (origin_of s c)) (at v)
    second_side = seen at s (at v) b c mesh.sound was.live_y (ap (origin_of s) (sym was.next_y) ∙ mesh.sound.joined b was.live_y) (lies b was.live_y was.face_y)

    pub third_side : TurnsLeft (at (origin_of s c)) (at (origin_of s a)) (at v)
    third_side = seen at s (at v) c a mesh.sound was.live_z (ap (origin_of s) (sym was.next_z) ∙ mesh.sound.joined c was.live_z) (lies c was.live_z was.face_z)

  pub inserted_plane : LiesInFace at s f (at v) → TrianglesTurnLeft at s → TrianglesTurnLeft at t
  inserted_plane lies plane =
      let starts = origin_more at s t words origins written mesh.sound in
      written_plane at s t words origins written mesh.sound plane
      (leads f a n (n + 5) (corners_are at (old a was.live_x) (sym (starts n 0 (omega arith))) (sym (starts (n + 5) 5 refl)) (first_side lies)), tt) (
        leads (face_count s) b (n + 2) (n + 1) (corners_are at (old b was.live_y) (sym (starts (n + 2) 2 refl)) (sym (starts (n + 1) 1 refl)) (second_side lies)),
        (leads (face_count s + 1) c (n + 4) (n + 3) (corners_are at (old c was.live_z) (sym (starts (n + 4) 4 refl)) (sym (starts (n + 3) 3 refl)) (third_side lies)), tt),
      )

  -- the sides, and the edges from the vertex to the corners
  abbrev pub list : List ℕ
  list = edges_inserted m f ++ m.shape.edges ∷ (m.shape.edges + 1) ∷ (m.shape.edges + 2) ∷ []

  abbrev Q : ℕ → Type 0
  Q h = 0 < count_of (h / 2) list

  is_new : (h u : ℕ) → h / 2 ≡ u → 0 < count_of u list → Q h
  is_new h u half found = subst (λ (k : ℕ). 0 < count_of k list) (sym half) found

  pub inserted_lists : (due : List ℕ) → IsMesh (vertex_inserted m v f halves edges faces) → ListsCircled at s due → ListsCircled at t (due ++ list)
  inserted_lists due after lists =
      let l = m.shape.edges in
      let at_n : Q n = is_new n l (omega arith) (count-at list 3 0 (omega arith)) in
      let at_1 : Q (n + 1) = is_new (n + 1) l (omega arith) (count-at list 3 0 (omega arith)) in
      let at_2 : Q (n + 2) = is_new (n + 2) (l + 1) (omega arith) (count-at list 4 0 (omega arith)) in
      let at_3 : Q (n + 3) = is_new (n + 3) (l + 1) (omega arith) (count-at list 4 0 (omega arith)) in
      let at_4 : Q (n + 4) = is_new (n + 4) (l + 2) (omega arith) (count-at list 5 0 (omega arith)) in
      let at_5 : Q (n + 5) = is_new (n + 5) (l + 2) (omega arith) (count-at list 5 0 (omega arith)) in
      written_lists at s t words origins written mesh.sound list due after.sound
      (λ inner h found. of_three Q a n (n + 5) h (count-at list 0 0 (omega arith)) at_n at_5 found, tt) (
        λ inner h found. of_three Q b (n + 2) (n + 1) h (count-at list 1 0 (omega arith)) at_2 at_1 found,
        (λ inner h found. of_three Q c (n + 4) (n + 3) h (count-at list 2 0 (omega arith)) at_4 at_3 found, tt),
      )
      lists
