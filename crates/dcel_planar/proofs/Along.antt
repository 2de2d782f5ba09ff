-- A point on the line of a path, and a walk towards it.
use Rattle.std.proofs.Common.{Bool, true, false, IsTrue, ◌↔◌, ◌≡◌, inl, inr, ℕ, ◌+◌, ◌*◌, ◌<◌, List, [], ◌∷◌, length, refl, sym, subst, pos, ◌+ℤ◌, ◌-ℤ◌, ◌*ℤ◌, ◌<ℤ◌, arith}
use Rattle.std.proofs.lemmas.Int.{by_lt_z}
use Rattle.dcel_fixed.specs.HalfEdges.{rev}
use Rattle.dcel_fixed.proofs.Halves.{rev-rev}
use Rattle.dcel_predicates.specs.declared.point.Point.{Point}
use Rattle.dcel_predicates.specs.Determinants.{orient2d_of}
use Rattle.dcel_predicates.proofs.Points.{orient2d-first_swapped}
use Rattle.dcel_predicates.proofs.Ring.{by_terms, minus, num, plus, times as by}
use Rattle.dcel_predicates.proofs.Signs.{ordered, square}
use Rattle.dcel_predicates.proofs.Terms.{spot}
use Rattle.dcel_maps.specs.Conditions.{IsLineEnd}
use Rattle.dcel_maps.specs.Removals.{gives_up_face}
use Rattle.dcel_maps.specs.Shapes.{IsLive, IsMesh, Mesh, Shape, edge_is_live, end_of, face_count, face_of, map_of, next_of, origin_of}
use Rattle.dcel_maps.proofs.Liveness.{is_live-parts}
use Rattle.dcel_maps.proofs.maps.Soundness.{rev_live}
use Rattle.dcel_maps.proofs.shapes.Maps.{face-live, map-sound}
use Rattle.dcel_maps.proofs.walks.Lengths.{count-le}
use Rattle.dcel_plane.specs.Plane.{point_at}
use Rattle.dcel_plane.specs.hull.Straight.{IsStraight, dot_of_steps}
use Rattle.dcel_plane.specs.location.Locating.{IsBefore, LiesBeyond, LiesOn, Passes}
use Rattle.dcel_plane.proofs.location.Lexical.{after_end, before_start, not_after_end, not_before_start}
use Rattle.dcel_plane.proofs.location.OnLine.{few_passed, goes_on, places, stays_ahead}
use Rattle.dcel_planar.specs.Places.{HasLeft, HasPoint, HasRight, IsOnLine}
use Rattle.dcel_planar.proofs.OnEdges.{has_point}

-- seen from the other half of an edge a line is the same, and its sides are exchanged
pub on_back : (a b p : Point) → orient2d_of a b p ≡ pos 0 → orient2d_of b a p ≡ pos 0
on_back a b p on = let e = orient2d-first_swapped a b p in omega (arith, ordered, e, on)

left_back : (a b p : Point) → orient2d_of a b p <ℤ pos 0 → pos 0 <ℤ orient2d_of b a p
left_back a b p right = let e = orient2d-first_swapped a b p in omega (arith, ordered, e, right)

-- one of two different points comes before the other
either_before : (a b : Point) → ¬ ((a.x ≡ b.x) × (a.y ≡ b.y)) → ¬ IsBefore a b → IsBefore b a
either_before a b apart not =
    by_lt_z b.x a.x (λ less. inl less)
    (λ no_less. by_lt_z a.x b.x (λ more. absurd (not (inl more)))
    (λ no_more. let same : b.x ≡ a.x = omega (arith, ordered, no_less, no_more) in
    by_lt_z b.y a.y (λ less. inr (same, less))
    (λ no_down. by_lt_z a.y b.y (λ more. absurd (not (inr (sym same, more))))
    (λ no_up. absurd (apart (sym same, omega (arith, ordered, no_down, no_up)))))))

-- no point lies beyond both ends
both_ends : (a b p : Point) → dot_of_steps a b p +ℤ dot_of_steps b a p +ℤ ((a.x -ℤ b.x) *ℤ (a.x -ℤ b.x)) +ℤ ((a.y -ℤ b.y) *ℤ (a.y -ℤ b.y)) ≡ pos 0
both_ends a b p =
    by_terms (a.x ∷ a.y ∷ b.x ∷ b.y ∷ p.x ∷ p.y ∷ [])
    (plus (plus (plus
    (plus (by (minus (spot 1).x (spot 0).x) (minus (spot 2).x (spot 1).x)) (by (minus (spot 1).y (spot 0).y) (minus (spot 2).y (spot 1).y)))
    (plus (by (minus (spot 0).x (spot 1).x) (minus (spot 2).x (spot 0).x)) (by (minus (spot 0).y (spot 1).y) (minus (spot 2).y (spot 0).y))))
    (by (minus (spot 0).x (spot 1).x) (minus (spot 0).x (spot 1).x))) (by (minus (spot 0).y (spot 1).y) (minus (spot 0).y (spot 1).y))) (num (pos 0)) refl

not_both : (a b p : Point) → pos 0 <ℤ dot_of_steps a b p → pos 0 <ℤ dot_of_steps b a p → ⊥
not_both a b p one other =
    let e = both_ends a b p in
    let x = square (a.x -ℤ b.x) in
    let y = square (a.y -ℤ b.y) in
    omega (arith, ordered, e, x, y, one, other)

no_truth : IsTrue false → ⊥
no_truth holds = grind (arith, holds)

module _ {DE UE F : Type 0} (m : Mesh Point DE UE F) where
  -- the half edges that a walk has passed, one for each step
  abbrev pub Passed : ℕ → ℕ → ℕ → Type 0
  Passed g h steps = (list : List ℕ) × Passes m.shape g list h × (length list ≡ steps)

  -- the order of the points tells whether one lies beyond the end, whichever way the half edge leads
  pub beyond_up : (h : ℕ) (p : Point) → IsOnLine m p h → IsBefore (point_at m (origin_of m.shape h)) (point_at m (end_of m.shape h)) → (b : Point)
      → b ≡ point_at m (end_of m.shape h) → (told : Bool) → (IsTrue told ↔ IsBefore b p) → IsTrue told ↔ LiesBeyond (point_at m) m.shape p h
  beyond_up h p on up b is true tells = (
    λ holds. record {
      on = on;
      past = after_end (point_at m (origin_of m.shape h)) (point_at m (end_of m.shape h)) p on up (subst (λ (q : Point). IsBefore q p) is (tells.0 holds));
    },
    λ beyond. refl,
  )
  beyond_up h p on up b is false tells = (
    λ not. absurd (no_truth not),
    λ beyond. absurd
        (let less = not_after_end (point_at m (origin_of m.shape h)) (point_at m (end_of m.shape h)) p on up (λ before. no_truth (tells.1 (subst (λ (q : Point). IsBefore q p) (sym is) before))) in
        let more = beyond.past in omega (arith, ordered, less, more)),
  )

  pub beyond_down : (h : ℕ) (p : Point) → IsOnLine m p h → IsBefore (point_at m (end_of m.shape h)) (point_at m (origin_of m.shape h)) → (b : Point)
      → b ≡ point_at m (end_of m.shape h) → (told : Bool) → (IsTrue told ↔ IsBefore p b) → IsTrue told ↔ LiesBeyond (point_at m) m.shape p h
  beyond_down h p on down b is true tells = (
    λ holds. record {
      on = on;
      past =
          before_start (point_at m (end_of m.shape h)) (point_at m (origin_of m.shape h)) p (on_back (point_at m (origin_of m.shape h)) (point_at m (end_of m.shape h)) p on) down
          (subst (IsBefore p) is (tells.0 holds));
    },
    λ beyond. refl,
  )
  beyond_down h p on down b is false tells = (
    λ not. absurd (no_truth not),
    λ beyond. absurd
        (let less =
        not_before_start (point_at m (end_of m.shape h)) (point_at m (origin_of m.shape h)) p (on_back (point_at m (origin_of m.shape h)) (point_at m (end_of m.shape h)) p on) down
        (λ before. no_truth (tells.1 (subst (IsBefore p) (sym is) before))) in
        let more = beyond.past in omega (arith, ordered, less, more)),
  )

module _ {DE UE F : Type 0} (m : Mesh Point DE UE F) (mesh : IsMesh m) where
  abbrev s : Shape
  s = m.shape

  abbrev at : ℕ → Point
  at = point_at m

  -- a path has only the outer face
  pub outer : face_count s ≡ 1 → (h : ℕ) → IsLive s h → face_of s h ≡ 0
  outer one h live =
      let below = (is_live-parts (gives_up_face s.removal) (face_count s) (face_of s h) (face-live mesh.sound h live)).0 in omega (arith, below, one)

  pub beside : (p : Point) (h : ℕ) → HasRight m p h → HasLeft m p (rev h)
  beside p h right = subst (λ (i : ℕ). pos 0 <ℤ orient2d_of (at (end_of s h)) (at (origin_of s i)) p) (sym (rev-rev h)) (left_back (at (origin_of s h)) (at (end_of s h)) p right)

  pub on_rev : (p : Point) (h : ℕ) → IsOnLine m p h → IsOnLine m p (rev h)
  on_rev p h on = subst (λ (i : ℕ). orient2d_of (at (end_of s h)) (at (origin_of s i)) p ≡ pos 0) (sym (rev-rev h)) (on_back (at (origin_of s h)) (at (end_of s h)) p on)

  -- beyond one end a point doesn't lie beyond the other
  pub not_behind : (p : Point) (h : ℕ) → LiesBeyond at s p (rev h) → ¬ LiesBeyond at s p h
  not_behind p h back ahead =
      not_both (at (origin_of s h)) (at (end_of s h)) p ahead.past
      (subst (λ (i : ℕ). pos 0 <ℤ dot_of_steps (at (end_of s h)) (at (origin_of s i)) p) (rev-rev h) back.past)

  module _ (straight : IsStraight at s) where
    pub down : (h : ℕ) → IsLive s h → ¬ IsBefore (at (origin_of s h)) (at (end_of s h)) → IsBefore (at (end_of s h)) (at (origin_of s h))
    down h live not =
        either_before (at (origin_of s h)) (at (end_of s h))
        (λ same. mesh.sound.two_ends h live (straight.distinct h (rev h) live (rev_live (map_of s) h live) same.0 same.1)) not

    -- between the ends, or at one of them
    pub between : (p : Point) (h : ℕ) → IsLive s h → IsOnLine m p h → ¬ LiesBeyond at s p h → ¬ LiesBeyond at s p (rev h) → ¬ HasPoint m p (origin_of s h)
        → ¬ HasPoint m p (end_of s h) → LiesOn at s p h
    between p h live on ahead behind start end =
        let below = (map-sound mesh.sound).below_vertices in
        elim (places m mesh at straight h live p on) [
          | inl lies ↦ lies
          | inr other ↦ elim other [
            | inl stands ↦ absurd (start (has_point m mesh p (origin_of s h) (below h live) stands))
            | inr third ↦ elim third [
              | inl stands ↦ absurd (end (has_point m mesh p (end_of s h) (below (rev h) (rev_live (map_of s) h live)) stands))
              | inr past ↦ elim past [ inl more ↦ absurd (ahead more) | inr less ↦ absurd (behind less) ]
            ]
          ]
        ]

    pub onward : (g h steps : ℕ) → IsLive s h → Passed m g h steps → ¬ IsLineEnd s (end_of s h) → Passed m g (next_of s h) (steps + 1)
    onward g h steps live passed more =
        let on = goes_on m mesh at straight h live more in
        let many = passed.2 in
        (h ∷ passed.0, (live, on.1, on.2, passed.1), omega (arith, many))

    pub still_ahead : (p : Point) (h : ℕ) → IsLive s h → ¬ IsLineEnd s (end_of s h) → LiesBeyond at s p h
        → IsLive s (next_of s h) × IsOnLine m p (next_of s h) × (¬ LiesBeyond at s p (rev (next_of s h)))
    still_ahead p h live more lies =
        let on = goes_on m mesh at straight h live more in
        let stays = stays_ahead m mesh at straight h (next_of s h) live on.0 on.1 on.2 p lies in
        (on.0, stays.0, stays.1)

    -- there are more half edges than steps
    pub passed_few : (g h steps : ℕ) → IsLive s h → Passed m g h steps → steps < 2 * s.edges
    passed_few g h steps live passed =
        let few = few_passed m mesh at straight g h passed.0 live passed.1 in
        let all = count-le (edge_is_live s) s.edges in
        let many = passed.2 in
        omega (arith, few, all, many)
