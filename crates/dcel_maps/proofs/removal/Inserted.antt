-- The vertex inserted into a triangle (a, b, c): its out edges, with their edges and faces, and what comes after them.
use Rattle.std.proofs.Common.{◌≡◌, ◌≢◌, ◌+◌, ◌*◌, ◌/◌, ◌<◌, ℕ, List, [], ◌∷◌, ◌++◌, length, map, slice_set, unwrap_or, Option, Some, None, refl, sym, ap, ◌∙◌, subst, arith}
use Rattle.std.proofs.lemmas.Bool.Decides.{nat_tests}
use Rattle.std.proofs.lemmas.List.{get_or-append-add, get_or-set_other, get_or-set_same, get_or_append_left, length-append, length-set}
use Rattle.dcel_fixed.specs.HalfEdges.{rev}
use Rattle.dcel_maps.specs.Conditions.{HasRoom, IsTriangle, IsUnconnected}
use Rattle.dcel_maps.specs.Removals.{gives_up_face}
use Rattle.dcel_maps.specs.Shapes.{AnchorsWord, IsMesh, Mesh, Shape, adjacent_edge_of, face_anchor, face_count, face_of, map_of, next_of, prev_of}
use Rattle.dcel_maps.specs.Walking.{ccw_of, out_edges_of, walk_from, walk_of}
use Rattle.dcel_maps.specs.Words.{word_of}
use Rattle.dcel_maps.specs.edits.Fill.{edges_at, faces_at}
use Rattle.dcel_maps.specs.edits.Triangle.{vertex_inserted}
use Rattle.dcel_maps.specs.theory.Cycles.{IsCycle}
use Rattle.dcel_maps.specs.theory.Standing.{Follows}
use Rattle.dcel_maps.proofs.Liveness.{is_live-parts}
use Rattle.dcel_maps.proofs.edits.Changes.{edit_makes_mesh}
use Rattle.dcel_maps.proofs.edits.Inserts.{inserted, inserted_is, inserted_is_edit}
use Rattle.dcel_maps.proofs.walks.Links.{links_stand}
use Rattle.dcel_maps.proofs.words.Walking.{up_to-is}

-- words of which one is replaced, with more words after them
pub replaced-count : (ws : List (List ℕ)) (f : ℕ) (w : List ℕ) (more : List (List ℕ)) → length (slice_set ws f w ++ more) ≡ length ws + length more
replaced-count ws f w more = omega (arith, length-append (slice_set ws f w) more, length-set ws f w)

replaced-there : (ws : List (List ℕ)) (f : ℕ) (w : List ℕ) (more : List (List ℕ)) → f < length ws → word_of (slice_set ws f w ++ more) f ≡ w
replaced-there ws f w more below =
    get_or_append_left (slice_set ws f w) more [] f (omega (arith, below, length-set ws f w)) ∙ get_or-set_same ws f w [] below

pub replaced-other : (ws : List (List ℕ)) (f : ℕ) (w : List ℕ) (more : List (List ℕ)) (g : ℕ) → g < length ws → g ≢ f
    → word_of (slice_set ws f w ++ more) g ≡ word_of ws g
replaced-other ws f w more g below other =
    get_or_append_left (slice_set ws f w) more [] g (omega (arith, below, length-set ws f w)) ∙ get_or-set_other ws f g w [] other

replaced-new : (ws : List (List ℕ)) (f : ℕ) (w : List ℕ) (more : List (List ℕ)) (i : ℕ)
    → word_of (slice_set ws f w ++ more) (length ws + i) ≡ word_of more i
replaced-new ws f w more i =
    ap (λ n. word_of (slice_set ws f w ++ more) (n + i)) (sym (length-set ws f w)) ∙ get_or-append-add (slice_set ws f w) more i []

-- a triangle has an anchor
anchor_there : (w : List ℕ) (anchor : Option ℕ) → AnchorsWord w anchor → length w ≡ 3 → anchor ≡ Some (unwrap_or anchor 0)
anchor_there w None empty three = let none : length w ≡ 0 = ap length empty in absurd (omega (arith, none, three))
anchor_there w (Some h) found three = refl

module _ {V DE UE F : Type 0} (m : Mesh V DE UE F) (f : ℕ) (mesh : IsMesh m) (triangle : IsTriangle m.shape f) where
  pub face-below : f < face_count m.shape
  face-below = (is_live-parts (gives_up_face m.shape.removal) (face_count m.shape) f triangle.live).0

  pub anchor-is : face_anchor m f ≡ Some (adjacent_edge_of m f)
  anchor-is = anchor_there (word_of m.shape.words f) (face_anchor m f) (mesh.anchored.faces f face-below) triangle.three

  pub vertex_inserted-mesh : (v : ℕ) (halves : List DE) (edges : List UE) (faces : List F) → IsUnconnected m.shape v → HasRoom m.shape 0 3 2
      → length halves ≡ 6 → length edges ≡ 3 → length faces ≡ 2 → IsMesh (vertex_inserted m v f halves edges faces)
  vertex_inserted-mesh v halves edges faces unconnected room six three two =
      let a = adjacent_edge_of m f in
      subst IsMesh (inserted_is m mesh f a triangle anchor-is v halves edges faces)
      (edit_makes_mesh m (inserted m mesh f a triangle anchor-is v halves edges faces) mesh
      (inserted_is_edit m mesh f a triangle anchor-is v halves edges faces unconnected room six three two))

module _ {V DE UE F : Type 0} (m : Mesh V DE UE F) (v f : ℕ) (halves : List DE) (edges : List UE) (faces : List F) (mesh : IsMesh m) (after : IsMesh (vertex_inserted m v f halves edges faces)) (v_below : v < m.shape.vertices) (f_below : f < face_count m.shape) where
  abbrev s : Shape
  s = (vertex_inserted m v f halves edges faces).shape

  abbrev n : ℕ
  n = 2 * m.shape.edges

  abbrev a : ℕ
  a = adjacent_edge_of m f

  abbrev b : ℕ
  b = next_of m.shape (adjacent_edge_of m f)

  abbrev c : ℕ
  c = prev_of m.shape (adjacent_edge_of m f)

  abbrev L : ℕ
  L = face_count m.shape

  abbrev sectors : List (List ℕ)
  sectors = (b ∷ (n + 2) ∷ (n + 1) ∷ []) ∷ (c ∷ (n + 4) ∷ (n + 3) ∷ []) ∷ []

  pub inserted-count : face_count s ≡ L + 2
  inserted-count = replaced-count m.shape.words f (a ∷ n ∷ (n + 5) ∷ []) sectors

  cycle : (g : ℕ) (w : List ℕ) → g < L + 2 → word_of s.words g ≡ w → IsCycle (Follows (map_of s) g) w
  cycle g w within is = subst (IsCycle (Follows (map_of s) g)) is ((links_stand after.sound).cycles g (omega (arith, within, inserted-count)))

  on_first : IsCycle (Follows (map_of s) f) (a ∷ n ∷ (n + 5) ∷ [])
  on_first =
      cycle f (a ∷ n ∷ (n + 5) ∷ []) (omega (arith, f_below)) (replaced-there m.shape.words f (a ∷ n ∷ (n + 5) ∷ []) sectors f_below)

  on_second : IsCycle (Follows (map_of s) (L + 0)) (b ∷ (n + 2) ∷ (n + 1) ∷ [])
  on_second = cycle (L + 0) (b ∷ (n + 2) ∷ (n + 1) ∷ []) (omega arith) (replaced-new m.shape.words f (a ∷ n ∷ (n + 5) ∷ []) sectors 0)

  on_third : IsCycle (Follows (map_of s) (L + 1)) (c ∷ (n + 4) ∷ (n + 3) ∷ [])
  on_third = cycle (L + 1) (c ∷ (n + 4) ∷ (n + 3) ∷ []) (omega arith) (replaced-new m.shape.words f (a ∷ n ∷ (n + 5) ∷ []) sectors 1)

  -- the spokes come after each other round v
  halves_turn : (k e : ℕ) → k ≡ 2 * e → rev k ≡ k + 1
  unfolding rev
  halves_turn k e even = omega (arith, even)

  turn_1 : ccw_of s (n + 1) ≡ n + 3
  turn_1 = ap rev on_second.1.0.prev ∙ halves_turn (n + 2) (m.shape.edges + 1) (omega arith) ∙ omega arith

  turn_3 : ccw_of s (n + 3) ≡ n + 5
  turn_3 = ap rev on_third.1.0.prev ∙ halves_turn (n + 4) (m.shape.edges + 2) (omega arith) ∙ omega arith

  turn_5 : ccw_of s (n + 5) ≡ n + 1
  turn_5 = ap rev on_first.1.0.prev ∙ halves_turn n m.shape.edges refl

  three_round : (h i j : ℕ) → ccw_of s h ≡ i → ccw_of s i ≡ j → ccw_of s j ≡ h → h ≢ i → h ≢ j → walk_of s (ccw_of s) h ≡ h ∷ i ∷ j ∷ []
  three_round h i j to_i to_j to_h not_i not_j =
      up_to-is (ccw_of s) (2 * s.edges) h h (i ∷ j ∷ []) (to_i, (to_j, to_h)) (grind (arith, nat_tests)) (omega arith)

  walk_1 : walk_of s (ccw_of s) (n + 1) ≡ (n + 1) ∷ (n + 3) ∷ (n + 5) ∷ []
  walk_1 = three_round (n + 1) (n + 3) (n + 5) turn_1 turn_3 turn_5 (λ i. omega (arith, i)) (λ i. omega (arith, i))

  walk_3 : walk_of s (ccw_of s) (n + 3) ≡ (n + 3) ∷ (n + 5) ∷ (n + 1) ∷ []
  walk_3 = three_round (n + 3) (n + 5) (n + 1) turn_3 turn_5 turn_1 (λ i. omega (arith, i)) (λ i. omega (arith, i))

  walk_5 : walk_of s (ccw_of s) (n + 5) ≡ (n + 5) ∷ (n + 1) ∷ (n + 3) ∷ []
  walk_5 = three_round (n + 5) (n + 1) (n + 3) turn_5 turn_1 turn_3 (λ i. omega (arith, i)) (λ i. omega (arith, i))

  -- the out edges of v, with their edges and faces
  pub inserted-outs : out_edges_of (vertex_inserted m v f halves edges faces) v ≡ (n + 1) ∷ (n + 3) ∷ (n + 5) ∷ []
  inserted-outs =
      ap (walk_from s (ccw_of s)) (get_or-set_same m.vertex_anchors v (Some (n + 1)) None (omega (arith, v_below, mesh.sized.vertex_anchors)))
      ∙ walk_1

  pub inserted-edges : edges_at (vertex_inserted m v f halves edges faces) v ≡ m.shape.edges ∷ (m.shape.edges + 1) ∷ (m.shape.edges + 2) ∷ []
  inserted-edges =
      let first : (n + 1) / 2 ≡ m.shape.edges = omega arith in
      let second : (n + 3) / 2 ≡ m.shape.edges + 1 = omega arith in
      let third : (n + 5) / 2 ≡ m.shape.edges + 2 = omega arith in
      ap (map (λ h. h / 2)) inserted-outs ∙ rw (first, second, third) refl

  pub inserted-faces : faces_at (vertex_inserted m v f halves edges faces) v ≡ L ∷ (L + 1) ∷ f ∷ []
  inserted-faces =
      let first : face_of s (n + 1) ≡ L = on_second.1.1.face ∙ omega arith in
      ap (map (face_of s)) inserted-outs ∙ ap (λ w. w ∷ face_of s (n + 3) ∷ face_of s (n + 5) ∷ []) first
      ∙ ap (λ w. L ∷ w ∷ face_of s (n + 5) ∷ []) on_third.1.1.face ∙ ap (λ w. L ∷ (L + 1) ∷ w ∷ []) on_first.1.1.face

  -- what comes after them, from each of them on
  ring_from : (h i j x y z : ℕ) → walk_of s (ccw_of s) h ≡ h ∷ i ∷ j ∷ [] → next_of s h ≡ x → next_of s i ≡ y → next_of s j ≡ z
      → map (next_of s) (walk_of s (ccw_of s) h) ≡ x ∷ y ∷ z ∷ []
  ring_from h i j x y z walks at_h at_i at_j =
      ap (map (next_of s)) walks ∙ ap (λ w. w ∷ next_of s i ∷ next_of s j ∷ []) at_h
      ∙ ap (λ w. x ∷ w ∷ next_of s j ∷ []) at_i ∙ ap (λ w. x ∷ y ∷ w ∷ []) at_j

  pub ring_1 : map (next_of s) (walk_of s (ccw_of s) (n + 1)) ≡ b ∷ c ∷ a ∷ []
  ring_1 = ring_from (n + 1) (n + 3) (n + 5) b c a walk_1 on_second.1.1.next on_third.1.1.next on_first.1.1.next

  pub ring_3 : map (next_of s) (walk_of s (ccw_of s) (n + 3)) ≡ c ∷ a ∷ b ∷ []
  ring_3 = ring_from (n + 3) (n + 5) (n + 1) c a b walk_3 on_third.1.1.next on_first.1.1.next on_second.1.1.next

  pub ring_5 : map (next_of s) (walk_of s (ccw_of s) (n + 5)) ≡ a ∷ b ∷ c ∷ []
  ring_5 = ring_from (n + 5) (n + 1) (n + 3) a b c walk_5 on_first.1.1.next on_second.1.1.next on_third.1.1.next
