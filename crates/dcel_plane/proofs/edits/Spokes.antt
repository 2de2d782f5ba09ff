-- The edges from a vertex that was put into a triangle to its corners have no corner inside a circle.
use Rattle.std.proofs.Common.{◌≡◌, inl, inr, ℕ, ◌+◌, ◌*◌, ◌<◌, List, [], ◌∷◌, ◌++◌, length, slice_index, slice_set, refl, sym, ap, ◌∙◌, subst, pos, ◌<ℤ◌, arith}
use Rattle.std.proofs.lemmas.Bool.{cases_lt}
use Rattle.std.proofs.lemmas.List.{get_or-append-add, get_or-set_same, get_or_append_left, length-append, length-set}
use Rattle.dcel_predicates.specs.declared.point.Point.{Point}
use Rattle.dcel_predicates.specs.Determinants.{incircle_of}
use Rattle.dcel_predicates.proofs.Convex.{flipped}
use Rattle.dcel_predicates.proofs.Points.{orient2d-first_swapped}
use Rattle.dcel_predicates.proofs.Signs.{ordered}
use Rattle.dcel_maps.specs.Conditions.{IsTriangle}
use Rattle.dcel_maps.specs.edits.Triangle.{vertex_inserted}
use Rattle.dcel_maps.specs.Maps.{Map}
use Rattle.dcel_maps.specs.Shapes.{IsLive, IsMesh, Mesh, Shape, adjacent_edge_of, face_count, map_of, next_of, origin_of, prev_of}
use Rattle.dcel_maps.specs.theory.Sound.{Sound}
use Rattle.dcel_maps.specs.theory.Standing.{Follows, Stands}
use Rattle.dcel_maps.specs.theory.Cycles.{IsCycle}
use Rattle.dcel_maps.specs.Words.{count_of, word_of}
use Rattle.dcel_maps.proofs.maps.Triangles.{IsTriangleOf, triangle_from}
use Rattle.dcel_maps.proofs.shapes.Maps.{map-sound}
use Rattle.dcel_maps.proofs.walks.Links.{links_stand}
use Rattle.dcel_plane.specs.Edges.{edges_inserted}
use Rattle.dcel_plane.specs.Plane.{IsCircled, LiesInFace, ListsCircled, TurnsLeft}
use Rattle.dcel_plane.proofs.edits.Corners.{left_turned, of_three}
use Rattle.dcel_maps.proofs.words.Counts.{count-append}
use Rattle.dcel_plane.proofs.edits.Inserted.{first_side, inserted_lists, old, origins, second_side, third_side, was, words, written}
use Rattle.dcel_plane.proofs.edits.Written.{circle_are, origin_more}

-- a word of three leads round a triangle
read_as_it_is : (M : Map) (ws : List (List ℕ)) → Stands M ws → Sound M → (f x y z : ℕ) → f < length ws → word_of ws f ≡ x ∷ y ∷ z ∷ [] → IsTriangleOf M f x y z
read_as_it_is M ws st s f x y z within is =
    let cycle : IsCycle (Follows M f) (x ∷ y ∷ z ∷ []) = subst (λ (w : List ℕ). IsCycle (Follows M f) w) is (st.cycles f within) in
    triangle_from M s f x y z cycle.0.live cycle.0.next cycle.1.0.next cycle.1.1.next cycle.0.face

-- an edge whose triangles make a corner at its end that isn't convex
not_convex : (start end near far : Point) → TurnsLeft start end near → TurnsLeft end start far → TurnsLeft far near end → pos 0 <ℤ incircle_of start end near far → ⊥
not_convex start end near far left right corner inside =
    let new = flipped start end near far left right inside in
    omega (arith, ordered, new.first, corner, orient2d-first_swapped near far end)

-- a point inside a triangle, and its edge to the second corner
no_spoke : (p q r v : Point) → TurnsLeft p q v → TurnsLeft q r v → TurnsLeft r p v → pos 0 <ℤ incircle_of q v p r → ⊥
no_spoke p q r v first second third inside =
    not_convex q v p r (left_turned p q v first) (left_turned r v q (left_turned q r v second)) third inside

module _ {V DE UE F : Type 0} (m : Mesh V DE UE F) (mesh : IsMesh m) (v f : ℕ) (triangle : IsTriangle m.shape f) (halves : List DE) (edges : List UE) (faces : List F) (at : ℕ → Point)
    (after : IsMesh (vertex_inserted m v f halves edges faces)) (lies : LiesInFace at m.shape f (at v)) where
  abbrev s : Shape
  s = m.shape

  abbrev t : Shape
  t = (vertex_inserted m v f halves edges faces).shape

  abbrev k : ℕ
  k = m.shape.edges

  abbrev n : ℕ
  n = 2 * m.shape.edges

  abbrev a : ℕ
  a = adjacent_edge_of m f

  abbrev b : ℕ
  b = next_of m.shape a

  abbrev c : ℕ
  c = prev_of m.shape a

  abbrev near_words : List (List ℕ)
  near_words = slice_set s.words f (a ∷ n ∷ (n + 5) ∷ [])

  abbrev more_words : List (List ℕ)
  more_words = (b ∷ (n + 2) ∷ (n + 1) ∷ []) ∷ (c ∷ (n + 4) ∷ (n + 3) ∷ []) ∷ []

  f_in : f < face_count s
  f_in = let is = was m mesh v f triangle halves edges faces at in omega (arith, sym is.face_x, (map-sound mesh.sound).below_faces a is.live_x)

  many : face_count t ≡ face_count s + 2
  many = length-append near_words more_words ∙ omega (arith, length-set s.words f (a ∷ n ∷ (n + 5) ∷ []))

  read : (g x y z : ℕ) → g < face_count t → word_of t.words g ≡ x ∷ y ∷ z ∷ [] → IsTriangleOf (map_of t) g x y z
  read g x y z within is = read_as_it_is (map_of t) t.words (links_stand after.sound) (map-sound after.sound) g x y z within is

  first_new : IsTriangleOf (map_of t) f a n (n + 5)
  first_new =
      read f a n (n + 5) (omega (arith, f_in, many))
      (get_or_append_left near_words more_words [] f (omega (arith, f_in, length-set s.words f (a ∷ n ∷ (n + 5) ∷ [])))
      ∙ get_or-set_same s.words f (a ∷ n ∷ (n + 5) ∷ []) [] f_in)

  placed : (i : ℕ) → word_of t.words (face_count s + i) ≡ word_of more_words i
  placed i =
      let is : face_count s + i ≡ length near_words + i = omega (arith, length-set s.words f (a ∷ n ∷ (n + 5) ∷ [])) in
      ap (word_of t.words) is ∙ get_or-append-add near_words more_words i []

  second_new : IsTriangleOf (map_of t) (face_count s + 0) b (n + 2) (n + 1)
  second_new = read (face_count s + 0) b (n + 2) (n + 1) (omega (arith, many)) (placed 0)

  third_new : IsTriangleOf (map_of t) (face_count s + 1) c (n + 4) (n + 3)
  third_new = read (face_count s + 1) c (n + 4) (n + 3) (omega (arith, many)) (placed 1)

  -- where the half edges start
  starts : (h i : ℕ) → h ≡ n + i → origin_of t h ≡ slice_index (origins m mesh v f triangle halves edges faces at).more i
  starts = origin_more at s t (words m mesh v f triangle halves edges faces at) (origins m mesh v f triangle halves edges faces at) (written m mesh v f triangle halves edges faces at) mesh.sound

  kept : (h : ℕ) → IsLive s h → origin_of t h ≡ origin_of s h
  kept h live = sym (old m mesh v f triangle halves edges faces at h live)

  -- the circle round an edge by its halves
  by_halves : (u h h' p p' : ℕ) {a' b' c' d' : ℕ} → 2 * u ≡ h → 2 * u + 1 ≡ h' → prev_of t h ≡ p → prev_of t h' ≡ p' → origin_of t h ≡ a' → origin_of t h' ≡ b' → origin_of t p ≡ c'
      → origin_of t p' ≡ d' → IsCircled at t u → pos 0 <ℤ incircle_of (at a') (at b') (at c') (at d')
  by_halves u h h' p p' eh eh' ep ep' oa ob oc od circled =
      circle_are at (ap (origin_of t) eh ∙ oa) (ap (origin_of t) eh' ∙ ob) (ap (origin_of t) (ap (prev_of t) eh ∙ ep) ∙ oc)
      (ap (origin_of t) (ap (prev_of t) eh' ∙ ep') ∙ od) circled

  none_circled : (u : ℕ) → 0 < count_of u (k ∷ (k + 1) ∷ (k + 2) ∷ []) → IsCircled at t u → ⊥
  none_circled u found =
      let is = was m mesh v f triangle halves edges faces at in
      let first = first_side m mesh v f triangle halves edges faces at lies in
      let second = second_side m mesh v f triangle halves edges faces at lies in
      let third = third_side m mesh v f triangle halves edges faces at lies in
      of_three (λ w. IsCircled at t w → ⊥) k (k + 1) (k + 2) u
      (λ circled.
      no_spoke (at (origin_of s a)) (at (origin_of s b)) (at (origin_of s c)) (at v) first second third
      (by_halves k n (n + 1) a (n + 2) refl refl first_new.prev_y second_new.prev_z (starts n 0 (omega arith)) (starts (n + 1) 1 refl) (kept a is.live_x) (starts (n + 2) 2 refl) circled))
      (λ circled.
      no_spoke (at (origin_of s b)) (at (origin_of s c)) (at (origin_of s a)) (at v) second third first
      (by_halves (k + 1) (n + 2) (n + 3) b (n + 4) (omega arith) (omega arith) second_new.prev_y third_new.prev_z (starts (n + 2) 2 refl) (starts (n + 3) 3 refl) (kept b is.live_y)
      (starts (n + 4) 4 refl) circled))
      (λ circled.
      no_spoke (at (origin_of s c)) (at (origin_of s a)) (at (origin_of s b)) (at v) third first second
      (by_halves (k + 2) (n + 4) (n + 5) c n (omega arith) (omega arith) third_new.prev_y first_new.prev_z (starts (n + 4) 4 refl) (starts (n + 5) 5 refl) (kept c is.live_z)
      (starts n 0 (omega arith)) circled))
      found

  pub sides_listed : (due : List ℕ) → ListsCircled at s due → ListsCircled at t (due ++ edges_inserted m f)
  sides_listed due lists u inner circled =
      let sides = edges_inserted m f in
      let spokes = k ∷ (k + 1) ∷ (k + 2) ∷ [] in
      let found : 0 < count_of u (due ++ (sides ++ spokes)) = inserted_lists m mesh v f triangle halves edges faces at due after lists u inner circled in
      let whole = count-append u due (sides ++ spokes) in
      let parts = count-append u sides spokes in
      let wanted = count-append u due sides in
      elim (cases_lt 0 (count_of u spokes)) [
        | inl there ↦ absurd (none_circled u there circled)
        | inr none ↦ omega (arith, found, whole, parts, wanted, none)
      ]
