-- A flip between two triangles that go round counterclockwise afterwards too leaves each place covered that was.
use Rattle.std.proofs.Common.{◌≡◌, ◌≢◌, ◌⊎◌, inl, inr, ℕ, ◌+◌, ◌*◌, ◌<◌, List, [], ◌∷◌, length, refl, sym, ap, ◌∙◌, subst, pos, ◌≤ℤ◌, arith}
use Rattle.std.proofs.lemmas.Bool.{cases_eq}
use Rattle.std.proofs.lemmas.Int.{by_lt_z}
use Rattle.dcel_fixed.specs.HalfEdges.{rev}
use Rattle.dcel_fixed.proofs.Halves.{rev-double, rev-double-suc, rev-rev}
use Rattle.dcel_predicates.specs.declared.point.Point.{Point}
use Rattle.dcel_predicates.proofs.Points.{orient2d-turned}
use Rattle.dcel_predicates.proofs.Signs.{ordered}
use Rattle.dcel_maps.specs.Cyclic.{from_least}
use Rattle.dcel_maps.specs.edits.Flip.{edge_flipped}
use Rattle.dcel_maps.specs.Shapes.{IsLive, IsMesh, Mesh, Shape, end_of, face_of, map_of, next_of, origin_of, prev_of}
use Rattle.dcel_maps.specs.Triangulations.{AllTriangles}
use Rattle.dcel_maps.specs.Words.{TurnsTo, count_of, word_of}
use Rattle.dcel_maps.proofs.Triangulations.{flipped}
use Rattle.dcel_maps.proofs.edits.Flips.{at_flip, flipped_mesh}
use Rattle.dcel_maps.proofs.maps.Soundness.{rev_live}
use Rattle.dcel_maps.proofs.shapes.Maps.{face-live}
use Rattle.dcel_maps.proofs.words.Counts.{count-later, count-same}
use Rattle.dcel_maps.proofs.words.Turns.{from_least-turn, turns_back}
use Rattle.dcel_maps.proofs.edits.Around.{at_edge}
use Rattle.dcel_plane.specs.Plane.{TrianglesTurnLeft, TurnsLeft}
use Rattle.dcel_plane.proofs.edits.Corners.{three_items, turned_along}
use Rattle.dcel_plane.proofs.edits.Flipped.{from_end, from_start, left_before, origin_after, origin_e, origin_far, origin_near, origin_same, origin_t, origin_t_after, right_before, starts_else, word_else, word_f, word_g}
use Rattle.dcel_plane.specs.covering.Covering.{CoversHull}
use Rattle.dcel_plane.specs.covering.Places.{IsIn, Place, orient_at}
use Rattle.dcel_plane.proofs.covering.Inside.{not_right, on_end, on_start, other_way}
use Rattle.dcel_plane.proofs.covering.Triangles.{at_word, same_face, word_at}
use Rattle.dcel_plane.proofs.hull.Keeping.{flip_outer}
use Rattle.dcel_plane.specs.removal.Wheels.{CanFlipInPlane}
use Rattle.dcel_plane.specs.segments.Segments.{CanTurnEach, TriangulatesItsHull, flipped_each}
use Rattle.dcel_plane.proofs.segments.Becoming.{turned_planar}
use Rattle.dcel_plane.proofs.segments.FlipFaces.{Flipped, of_even}

-- a place in one of the triangles at a diagonal of a quadrilateral lies in one of those at the other one
module _ (a b c d : Point) (near : TurnsLeft a b c) (far : TurnsLeft b a d) (first : TurnsLeft c d b) (second : TurnsLeft d c a) (p : Place) where
  in_either : IsIn a b c p → IsIn c d b p ⊎ IsIn d c a p
  in_either is =
      by_lt_z (orient_at c d p) (pos 0)
      (λ less. inr (
        (let o = other_way c d p in omega (arith, ordered, o, less)),
        is.2,
        not_right a b c a d p near (let z = on_end a d in omega (arith, ordered, z)) (let z = orient2d-turned b a d in let y = far in omega (arith, ordered, z, y))
            (let z = orient2d-turned d c a in let y = orient2d-turned c a d in let x = second in omega (arith, ordered, z, y, x)) is,
      ))
      (λ not. inl (
        not,
        not_right a b c d b p near (let z = orient2d-turned d b a in let y = far in omega (arith, ordered, z, y)) (let z = on_start d b in omega (arith, ordered, z))
            (let z = orient2d-turned c d b in let y = first in omega (arith, ordered, z, y)) is,
        is.1,
      ))

module _ {V DE UE F : Type 0} (m : Mesh V DE UE F) (mesh : IsMesh m) (triangles : AllTriangles m.shape) (at : ℕ → Point) (plane : TrianglesTurnLeft at m.shape) (u : ℕ)
    (turn : CanFlipInPlane at m.shape u) where
  abbrev s : Shape
  s = m.shape

  abbrev n : Shape
  n = (edge_flipped m u).shape

  open (at_edge m.shape u) use {e, t, f, g, ep, en, tp, tn}
  open (at_flip m u mesh turn.can) use {was, facing, differ}

  mesh_after : IsMesh (edge_flipped m u)
  mesh_after = flipped_mesh m u mesh turn.can

  flip : Flipped m mesh u turn.can e t
  flip = of_even m mesh u turn.can

  module _ (p : Place) where
    abbrev Off : (ℕ → ℕ) → ℕ → ℕ → ℕ → Type 0
    Off origin x y z = ¬ IsIn (at (origin x)) (at (origin y)) (at (origin z)) p

    turned : (origin : ℕ → ℕ) (x y z : ℕ) → Off origin x y z → Off origin y z x
    turned origin x y z off is = off (is.2, is.0, is.1)

    named : (a b c a' b' c' : ℕ) → a ≡ a' → b ≡ b' → c ≡ c' → IsIn (at a) (at b) (at c) p → IsIn (at a') (at b') (at c') p
    named a b c a' b' c' ea eb ec is =
        subst (λ (k : ℕ). IsIn (at a') (at b') (at k) p) ec (subst (λ (k : ℕ). IsIn (at a') (at k) (at c) p) eb (subst (λ (k : ℕ). IsIn (at k) (at b) (at c) p) ea is))

    abbrev start : Point
    start = at (origin_of m.shape (2 * u))

    abbrev end : Point
    end = at (origin_of m.shape (2 * u + 1))

    abbrev near : Point
    near = at (origin_of m.shape (prev_of m.shape (2 * u)))

    abbrev far : Point
    far = at (origin_of m.shape (prev_of m.shape (2 * u + 1)))

    turns_near : TurnsLeft start end near
    turns_near = left_before m mesh u turn.can at plane turn.inner

    turns_far : TurnsLeft end start far
    turns_far = right_before m mesh u turn.can at plane turn.inner_facing

    start_in : (i x y z k : ℕ) → i ≢ f → i ≢ g → word_of s.words i ≡ x ∷ y ∷ z ∷ [] → 0 < count_of k (x ∷ y ∷ z ∷ []) → origin_of n k ≡ origin_of s k
    start_in i x y z k not_f not_g is there = starts_else m mesh u turn.can i k not_f not_g (subst (λ (l : List ℕ). 0 < count_of k l) (sym is) there)

    turns_into : (w : List ℕ) (i j x y z : ℕ) → i ≡ j → word_of n.words j ≡ from_least w → word_of n.words i ≡ x ∷ y ∷ z ∷ [] → TurnsTo w (x ∷ y ∷ z ∷ [])
    turns_into w i j x y z same word is = subst (λ (l : List ℕ). TurnsTo w l) (sym word ∙ ap (word_of n.words) (sym same) ∙ is) (from_least-turn w)

    module _ (none : (i x y z : ℕ) → 0 < i → word_of (edge_flipped m u).shape.words i ≡ x ∷ y ∷ z ∷ [] → Off (origin_of (edge_flipped m u).shape) x y z) where
      off_new : (i x y z : ℕ) → 0 < i → length (word_of n.words i) ≡ 3 → word_of n.words i ≡ from_least (x ∷ y ∷ z ∷ []) → Off (origin_of n) x y z
      off_new i x y z inner long word =
          let (a, b, c, is) = three_items (word_of n.words i) long in
          let w = x ∷ y ∷ z ∷ [] in
          turned_along (Off (origin_of n)) (turned (origin_of n)) a b c x y z
          (turns_back (subst (λ (l : List ℕ). TurnsTo w l) (sym word ∙ is) (from_least-turn w))) (none i a b c inner is)

      three_on : (h i : ℕ) → IsLive s h → face_of n h ≡ i → 0 < i → length (word_of n.words i) ≡ 3
      three_on h i live on inner =
          subst (λ (k : ℕ). length (word_of n.words k) ≡ 3) on
          (flipped m triangles u (face_of n h) (subst (λ (k : ℕ). 0 < k) (sym on) inner) (face-live mesh_after.sound h live))

      off_first : ¬ IsIn (at (origin_of s ep)) (at (origin_of s tp)) (at (origin_of s t)) p
      off_first is =
          off_new f e tp en turn.inner (three_on e f was.live_x flip.here turn.inner) (word_f m mesh u turn.can)
          (named (origin_of s ep) (origin_of s tp) (origin_of s t) (origin_of n e) (origin_of n tp) (origin_of n en)
          (sym (origin_e m mesh u turn.can)) (sym (origin_far m mesh u turn.can at)) (sym (from_end m mesh u turn.can) ∙ sym (origin_after m mesh u turn.can at)) is)

      off_second : ¬ IsIn (at (origin_of s tp)) (at (origin_of s ep)) (at (origin_of s e)) p
      off_second is =
          off_new g t ep tn turn.inner_facing (three_on t g facing.live_x flip.there turn.inner_facing) (word_g m mesh u turn.can)
          (named (origin_of s tp) (origin_of s ep) (origin_of s e) (origin_of n t) (origin_of n ep) (origin_of n tn)
          (sym (origin_t m mesh u turn.can)) (sym (origin_near m mesh u turn.can at)) (sym (from_start m mesh u turn.can) ∙ sym (origin_t_after m mesh u turn.can at)) is)

      off_even : Off (origin_of s) e en ep
      off_even is =
          elim (in_either start end near far turns_near turns_far turn.first turn.second p
          (named (origin_of s e) (origin_of s en) (origin_of s ep) (origin_of s e) (origin_of s t) (origin_of s ep) refl (from_end m mesh u turn.can) refl is)) [
            | inl there ↦ off_first there
            | inr there ↦ off_second there
          ]

      off_odd : Off (origin_of s) t tn tp
      off_odd is =
          elim (in_either end start far near turns_far turns_near turn.second turn.first p
          (named (origin_of s t) (origin_of s tn) (origin_of s tp) (origin_of s t) (origin_of s e) (origin_of s tp) refl (from_start m mesh u turn.can) refl is)) [
            | inl there ↦ off_second there
            | inr there ↦ off_first there
          ]

      off_else : (h : ℕ) → IsLive s h → 0 < face_of s h → face_of s h ≢ f → face_of s h ≢ g → Off (origin_of s) h (next_of s h) (prev_of s h)
      off_else h live inner not_f not_g =
          let i = face_of s h in
          let word = word_at m mesh triangles h live inner in
          let start = start_in (face_of s h) word.a word.b word.c in
          let off : Off (origin_of s) word.a word.b word.c =
          (λ is. none (face_of s h) word.a word.b word.c inner (word_else m mesh u turn.can (face_of s h) not_f not_g ∙ word.is)
          (named (origin_of s word.a) (origin_of s word.b) (origin_of s word.c) (origin_of n word.a) (origin_of n word.b) (origin_of n word.c)
          (sym (start word.a not_f not_g word.is (let c = count-same word.a (word.b ∷ word.c ∷ []) in omega (arith, c))))
          (sym (start word.b not_f not_g word.is (count-later word.b word.a (word.b ∷ word.c ∷ []) (let c = count-same word.b (word.c ∷ []) in omega (arith, c)))))
          (sym (start word.c not_f not_g word.is (count-later word.c word.a (word.b ∷ word.c ∷ []) (count-later word.c word.b (word.c ∷ []) (let c = count-same word.c [] in omega (arith, c)))))) is)) in
          turned_along (Off (origin_of s)) (turned (origin_of s)) word.a word.b word.c h (next_of s h) (prev_of s h) word.turn off

      off_old : (h : ℕ) → IsLive s h → 0 < face_of s h → Off (origin_of s) h (next_of s h) (prev_of s h)
      off_old h live inner = elim (cases_eq (face_of s h) f) [
        | inl is ↦ same_face m mesh triangles (Off (origin_of s)) (turned (origin_of s)) e h was.live_x turn.inner live inner (sym is) off_even
        | inr not_f ↦ elim (cases_eq (face_of s h) g) [
          | inl is ↦ same_face m mesh triangles (Off (origin_of s)) (turned (origin_of s)) t h facing.live_x turn.inner_facing live inner (sym is) off_odd
          | inr not_g ↦ off_else h live inner not_f not_g
        ]
      ]

      pub off_all : (i x y z : ℕ) → 0 < i → word_of s.words i ≡ x ∷ y ∷ z ∷ [] → Off (origin_of s) x y z
      off_all = at_word m mesh triangles (Off (origin_of s)) (turned (origin_of s)) off_old

    -- and the other way round: a place that lies in no triangle of before lies in none afterwards
    module _ (none : (i x y z : ℕ) → 0 < i → word_of m.shape.words i ≡ x ∷ y ∷ z ∷ [] → Off (origin_of m.shape) x y z) where
      off_at : (h : ℕ) → IsLive s h → 0 < face_of s h → Off (origin_of s) h (next_of s h) (prev_of s h)
      off_at h live inner =
          let word = word_at m mesh triangles h live inner in
          turned_along (Off (origin_of s)) (turned (origin_of s)) word.a word.b word.c h (next_of s h) (prev_of s h) word.turn
          (none (face_of s h) word.a word.b word.c inner word.is)

      off_near : ¬ IsIn (at (origin_of s e)) (at (origin_of s t)) (at (origin_of s ep)) p
      off_near is =
          off_at e was.live_x turn.inner
          (named (origin_of s e) (origin_of s t) (origin_of s ep) (origin_of s e) (origin_of s en) (origin_of s ep) refl (sym (from_end m mesh u turn.can)) refl is)

      off_far : ¬ IsIn (at (origin_of s t)) (at (origin_of s e)) (at (origin_of s tp)) p
      off_far is =
          off_at t facing.live_x turn.inner_facing
          (named (origin_of s t) (origin_of s e) (origin_of s tp) (origin_of s t) (origin_of s tn) (origin_of s tp) refl (sym (from_start m mesh u turn.can)) refl is)

      off_one : Off (origin_of n) e tp en
      off_one is =
          elim (in_either near far end start turn.first turn.second turns_far turns_near p
          (named (origin_of n e) (origin_of n tp) (origin_of n en) (origin_of s ep) (origin_of s tp) (origin_of s t)
          (origin_e m mesh u turn.can) (origin_far m mesh u turn.can at) (origin_after m mesh u turn.can at ∙ from_end m mesh u turn.can) is)) [
            | inl there ↦ off_far there
            | inr there ↦ off_near there
          ]

      off_two : Off (origin_of n) t ep tn
      off_two is =
          elim (in_either far near start end turn.second turn.first turns_near turns_far p
          (named (origin_of n t) (origin_of n ep) (origin_of n tn) (origin_of s tp) (origin_of s ep) (origin_of s e)
          (origin_t m mesh u turn.can) (origin_near m mesh u turn.can at) (origin_t_after m mesh u turn.can at ∙ from_start m mesh u turn.can) is)) [
            | inl there ↦ off_near there
            | inr there ↦ off_far there
          ]

      off_same : (i x y z : ℕ) → 0 < i → i ≢ f → i ≢ g → word_of n.words i ≡ x ∷ y ∷ z ∷ [] → Off (origin_of n) x y z
      off_same i x y z inner not_f not_g is there =
          let word : word_of s.words i ≡ x ∷ y ∷ z ∷ [] = sym (word_else m mesh u turn.can i not_f not_g) ∙ is in
          none i x y z inner word
          (named (origin_of n x) (origin_of n y) (origin_of n z) (origin_of s x) (origin_of s y) (origin_of s z)
          (start_in i x y z x not_f not_g word (let c = count-same x (y ∷ z ∷ []) in omega (arith, c)))
          (start_in i x y z y not_f not_g word (count-later y x (y ∷ z ∷ []) (let c = count-same y (z ∷ []) in omega (arith, c))))
          (start_in i x y z z not_f not_g word (count-later z x (y ∷ z ∷ []) (count-later z y (z ∷ []) (let c = count-same z [] in omega (arith, c))))) there)

      pub off_each : (i x y z : ℕ) → 0 < i → word_of n.words i ≡ x ∷ y ∷ z ∷ [] → Off (origin_of n) x y z
      off_each i x y z inner is = elim (cases_eq i f) [
        | inl same ↦
            turned_along (Off (origin_of n)) (turned (origin_of n)) e tp en x y z
            (turns_into (e ∷ tp ∷ en ∷ []) i f x y z same (word_f m mesh u turn.can) is) off_one
        | inr not_f ↦ elim (cases_eq i g) [
          | inl same ↦
              turned_along (Off (origin_of n)) (turned (origin_of n)) t ep tn x y z
              (turns_into (t ∷ ep ∷ tn ∷ []) i g x y z same (word_g m mesh u turn.can) is) off_two
          | inr not_g ↦ off_same i x y z inner not_f not_g is
        ]
      ]

  -- an outer half edge is as it was
  module _ (k : ℕ) (live : IsLive m.shape k) (outer : face_of m.shape k ≡ 0) where
    off_f : face_of s k ≢ f
    off_f is = (let i = turn.inner in omega (arith, is, outer, i))

    off_g : face_of s k ≢ g
    off_g is = (let i = turn.inner_facing in omega (arith, is, outer, i))

    outer_still : face_of n k ≡ 0
    outer_still = flip.away k live off_f off_g ∙ outer

    start_still : origin_of n k ≡ origin_of s k
    start_still = origin_same m mesh u turn.can at k live (λ is. off_f (ap (face_of s) is)) (λ is. off_g (ap (face_of s) is))

    end_still : end_of n k ≡ end_of s k
    end_still =
        origin_same m mesh u turn.can at (rev k) (rev_live (map_of s) k live)
        (λ is. off_g (ap (face_of s) (sym (rev-rev k) ∙ ap rev is ∙ rev-double u))) (λ is. off_f (ap (face_of s) (sym (rev-rev k) ∙ ap rev is ∙ rev-double-suc u)))

  pub turn_covers : CoversHull at m.shape → CoversHull at (edge_flipped m u).shape
  turn_covers covers = record {
    covered = λ p h live inner right none.
        covers.covered p e was.live_x turn.inner
        (λ k live_k outer.
        subst (λ (i : ℕ). orient_at (at i) (at (end_of s k)) p ≤ℤ pos 0) (start_still k live_k outer)
        (subst (λ (i : ℕ). orient_at (at (origin_of n k)) (at i) p ≤ℤ pos 0) (end_still k live_k outer) (right k live_k (outer_still k live_k outer))))
        (off_all p none);
  }

  -- and the other way round
  pub turn_covered : CoversHull at (edge_flipped m u).shape → CoversHull at m.shape
  turn_covered covers = record {
    covered = λ p h live inner right none.
        covers.covered p e was.live_x (subst (λ (i : ℕ). 0 < i) (sym flip.here) turn.inner)
        (λ k live_k outer.
        let old = flip_outer m mesh u turn.can at turn.inner turn.inner_facing k live_k outer in
        subst (λ (i : ℕ). orient_at (at i) (at (end_of n k)) p ≤ℤ pos 0) old.start
        (subst (λ (i : ℕ). orient_at (at (origin_of s k)) (at i) p ≤ℤ pos 0) old.end (right k old.live old.on)))
        (off_each p none);
  }

-- and flips one after another
pub each_covers : {V DE UE F : Type 0} (at : ℕ → Point) (m : Mesh V DE UE F) (list : List ℕ) → TriangulatesItsHull at m → CanTurnEach at m list → CoversHull at m.shape
    → CoversHull at (flipped_each m list).shape
each_covers at m [] planar can covers = covers
each_covers at m (u ∷ list) planar can covers =
    each_covers at (edge_flipped m u) list (turned_planar at m u planar can.0) can.1 (turn_covers m planar.mesh planar.triangles at planar.plane u can.0 covers)

pub each_planar : {V DE UE F : Type 0} (at : ℕ → Point) (m : Mesh V DE UE F) (list : List ℕ) → TriangulatesItsHull at m → CanTurnEach at m list → TriangulatesItsHull at (flipped_each m list)
each_planar at m [] planar can = planar
each_planar at m (u ∷ list) planar can = each_planar at (edge_flipped m u) list (turned_planar at m u planar can.0) can.1
