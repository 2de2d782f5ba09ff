-- A hollow corner of the hull cut off, where no triangle is left: what remains is a straight line.
use Rattle.std.proofs.Common.{◌≡◌, ◌≢◌, ◌⊎◌, inl, inr, ℕ, zero, suc, ◌+◌, ◌-◌, ◌<◌, ◌≤◌, List, [], ◌∷◌, length, refl, sym, ap, ◌∙◌, subst, pos, ◌+ℤ◌, ◌-ℤ◌, ◌*ℤ◌, ◌<ℤ◌, ◌≤ℤ◌, arith}
use Rattle.std.proofs.lemmas.Bool.{cases_lt}
use Rattle.dcel_fixed.specs.HalfEdges.{rev}
use Rattle.dcel_fixed.proofs.Halves.{rev-rev}
use Rattle.dcel_predicates.specs.declared.point.Point.{Point}
use Rattle.dcel_predicates.specs.Determinants.{orient2d_of}
use Rattle.dcel_predicates.proofs.Points.{orient2d-first_swapped}
use Rattle.dcel_predicates.proofs.Ring.{by_terms, minus, plus, times as by}
use Rattle.dcel_predicates.proofs.Signs.{ordered, times_positive}
use Rattle.dcel_predicates.proofs.Terms.{orient, spot}
use Rattle.dcel_maps.specs.Shapes.{IsLive, IsMesh, Mesh, Shape, end_of, face_of, next_of, origin_of, prev_of}
use Rattle.dcel_maps.specs.Triangulations.{AllTriangles}
use Rattle.dcel_maps.specs.Walking.{IsOutEdge, IsRoundTrip, ListsOnce, ccw_of}
use Rattle.dcel_plane.specs.Plane.{TrianglesTurnLeft, TurnsLeft}
use Rattle.dcel_plane.specs.covering.Covering.{IsConvex, IsHull, dot}
use Rattle.dcel_plane.proofs.covering.Along.{dot_in, long, none_first, none_second}
use Rattle.dcel_plane.proofs.covering.Products.{positive_factor}
use Rattle.dcel_plane.proofs.covering.Triangles.{round}
use Rattle.dcel_plane.specs.hull.Straight.{IsStraight}
use Rattle.dcel_plane.proofs.hull.OneLine.{straight_of}
use Rattle.dcel_plane.specs.removal.Wheels.{IsHollow, turns}
use Rattle.dcel_plane.proofs.removal.Chains.{chain_in_order}
use Rattle.dcel_plane.proofs.removal.Cutting.{IsCutOff, cut_convex, neighbors_apart, side_of}
use Rattle.dcel_plane.proofs.removal.HullCorners.{inner_at, spoke}
use Rattle.dcel_plane.proofs.removal.Stripping.{bridge_alone}

-- of two points on the line from b to a, the one further on, as v sees it, is further on
further : (v b a x y : Point) → pos 0 <ℤ dot a a b → orient2d_of b a x ≡ pos 0 → orient2d_of b a y ≡ pos 0 → pos 0 <ℤ orient2d_of v b a → pos 0 <ℤ orient2d_of v x y
    → dot x a b <ℤ dot y a b
further v b a x y far on_x on_y left turn =
    let e = is in
    let f = none_first (orient2d_of b a x -ℤ orient2d_of b a y) (dot v a b) (omega (arith, ordered, on_x, on_y)) in
    let g = none_second (dot x a b) (orient2d_of b a y) on_y in
    let i = none_first (orient2d_of b a x) (dot y a b) on_x in
    let product = times_positive (dot a a b) (orient2d_of v x y) far turn in
    let r = positive_factor (dot y a b -ℤ dot x a b) (orient2d_of v b a) left (omega (arith, ordered, e, f, g, i, product)) in
    omega (arith, ordered, r)
  where
    is : dot a a b *ℤ orient2d_of v x y
        ≡ (((dot y a b -ℤ dot x a b) *ℤ orient2d_of v b a) +ℤ ((orient2d_of b a x -ℤ orient2d_of b a y) *ℤ dot v a b))
        +ℤ ((dot x a b *ℤ orient2d_of b a y) -ℤ (orient2d_of b a x *ℤ dot y a b))
    is =
        by_terms (v.x ∷ v.y ∷ b.x ∷ b.y ∷ a.x ∷ a.y ∷ x.x ∷ x.y ∷ y.x ∷ y.y ∷ []) (by (dot_in (spot 2) (spot 2) (spot 1)) (orient (spot 0) (spot 3) (spot 4)))
        (plus
        (plus (by (minus (dot_in (spot 4) (spot 2) (spot 1)) (dot_in (spot 3) (spot 2) (spot 1))) (orient (spot 0) (spot 1) (spot 2)))
        (by (minus (orient (spot 1) (spot 2) (spot 3)) (orient (spot 1) (spot 2) (spot 4))) (dot_in (spot 0) (spot 2) (spot 1))))
        (minus (by (dot_in (spot 3) (spot 2) (spot 1)) (orient (spot 1) (spot 2) (spot 4))) (by (orient (spot 1) (spot 2) (spot 3)) (dot_in (spot 4) (spot 2) (spot 1))))) refl

module _ {V DE UE F : Type 0} (m : Mesh V DE UE F) (mesh : IsMesh m) (triangles : AllTriangles m.shape) (at : ℕ → Point) (plane : TrianglesTurnLeft at m.shape)
    (convex : IsConvex at m.shape) (hull : IsHull at m.shape) (h : ℕ) (live : IsLive m.shape h) (outer : face_of m.shape h ≡ 0)
    (w : List ℕ) (trip : IsRoundTrip (ccw_of m.shape) h w) (lists : ListsOnce (IsOutEdge m.shape (origin_of m.shape h)) w)
    (hollow : IsHollow (at (origin_of m.shape h)) (λ i. at (end_of m.shape (turns (ccw_of m.shape) (suc i) h))) (length w - 1)) (some : 1 < length w)
    (t : Shape) (cut : IsCutOff m.shape t (origin_of m.shape h)) (turned : (x : ℕ) → IsLive t x → IsLive t (rev x))
    (kept : (x : ℕ) → IsLive m.shape x → origin_of m.shape x ≢ origin_of m.shape h → end_of m.shape x ≢ origin_of m.shape h → IsLive t x)
    (bare : (x : ℕ) → IsLive t x → face_of t x ≡ 0) where
  abbrev s : Shape
  s = m.shape

  abbrev o : ℕ
  o = origin_of m.shape h

  abbrev spin : ℕ → ℕ
  spin i = turns (ccw_of m.shape) i h

  abbrev k : ℕ
  k = length w - 1

  -- the neighbors, and the sides between them
  abbrev vertex : ℕ → ℕ
  vertex i = end_of m.shape (turns (ccw_of m.shape) (suc i) h)

  abbrev side : ℕ → ℕ
  side i = next_of m.shape (turns (ccw_of m.shape) (suc i) h)

  out : (i : ℕ) → IsLive s (spin i)
  out i = (spoke m mesh triangles at plane convex hull h live outer w trip i).alive

  from : (i : ℕ) → origin_of s (spin i) ≡ o
  from i = (spoke m mesh triangles at plane convex hull h live outer w trip i).from

  inner : (i : ℕ) → i < k → 0 < face_of s (spin (suc i))
  inner i below = inner_at m mesh triangles at plane convex hull h live outer w trip (suc i) (omega arith) (omega (arith, below, some))

  convex_after : IsConvex at t
  convex_after = cut_convex m mesh triangles at plane convex hull h live outer w trip lists hollow t cut turned

  start_s : (i : ℕ) → origin_of s (side i) ≡ vertex i
  start_s i = mesh.sound.joined (spin (suc i)) (out (suc i))

  end_s : (i : ℕ) → i < k → end_of s (side i) ≡ vertex (suc i)
  end_s i below =
      let tri = round m mesh triangles (spin (suc i)) (out (suc i)) (inner i below) in
      sym (mesh.sound.joined (side i) tri.live_y) ∙ ap (origin_of s) tri.next_y ∙ sym (ap (origin_of s) (rev-rev (prev_of s (spin (suc i)))))

  off : (i : ℕ) → vertex i ≢ o
  off i is = mesh.sound.two_ends (spin (suc i)) (out (suc i)) (from (suc i) ∙ sym is)

  live_side : (i : ℕ) → i < k → IsLive t (side i)
  live_side i below =
      let tri = round m mesh triangles (spin (suc i)) (out (suc i)) (inner i below) in
      kept (side i) tri.live_y (λ is. off i (sym (start_s i) ∙ is)) (λ is. off (suc i) (sym (end_s i below) ∙ is))

  start_t : (x : ℕ) → IsLive t x → origin_of t x ≡ origin_of s x
  start_t = cut.same

  end_t : (x : ℕ) → IsLive t x → end_of t x ≡ end_of s x
  end_t x live_x = cut.same (rev x) (turned x live_x)

  -- all stand on the line of each half edge
  on_line : (x z : ℕ) → IsLive t x → IsLive t z → orient2d_of (at (origin_of t x)) (at (end_of t x)) (at (origin_of t z)) ≡ pos 0
  on_line x z live_x live_z =
      let one = (convex_after.supports x z live_x (bare x live_x) live_z).0 in
      let back = turned x live_x in
      let two = (convex_after.supports (rev x) z back (bare (rev x) back) live_z).0 in
      let two' : orient2d_of (at (end_of t x)) (at (origin_of t x)) (at (origin_of t z)) ≤ℤ pos 0 =
      subst (λ (j : ℕ). orient2d_of (at (end_of t x)) (at (origin_of t j)) (at (origin_of t z)) ≤ℤ pos 0) (rev-rev x) two in
      let f = orient2d-first_swapped (at (origin_of t x)) (at (end_of t x)) (at (origin_of t z)) in
      omega (arith, ordered, one, two', f)

  -- a half edge that is left is a side, forth or back
  as_side : (x : ℕ) → IsLive t x → (face_of s x ≡ 0) ⊎ ((i : ℕ) × (i < k) × (x ≡ side i))
  as_side x live_x = elim (cut.outer x live_x (bare x live_x)) [
    | inl was ↦ inl was
    | inr found ↦ inr
        (let f = side_of m mesh triangles at plane convex hull h live outer w trip lists hollow x found.0 found.1 found.2 found.3 found.4 in
        (f.i, f.below, f.comes))
  ]

  each_side : (x : ℕ) → IsLive t x → (i : ℕ) × (i < k) × ((x ≡ side i) ⊎ (x ≡ rev (side i)))
  each_side x live_x = elim (as_side x live_x) [
    | inr (i, below, is) ↦ (i, below, inl is)
    | inl was ↦ elim (as_side (rev x) (turned x live_x)) [
      | inr (i, below, is) ↦ (i, below, inr (sym (rev-rev x) ∙ ap rev is))
      | inl was_too ↦ absurd
          (elim (bridge_alone m mesh triangles at plane convex hull h live outer x (cut.old x live_x) was was_too h live) [
            | inl is ↦ cut.none x live_x (cut.same x live_x ∙ ap (origin_of s) (sym is))
            | inr is ↦ cut.none (rev x) (turned x live_x) (cut.same (rev x) (turned x live_x) ∙ ap (origin_of s) (sym is))
          ])
    ]
  ]

  -- the line through the first two neighbors
  abbrev b : Point
  b = at (end_of m.shape (turns (ccw_of m.shape) 1 h))

  abbrev a : Point
  a = at (end_of m.shape (turns (ccw_of m.shape) 2 h))

  some_side : 0 < k
  some_side = omega (arith, some)

  left : TurnsLeft (at o) b a
  left = neighbors_apart m mesh triangles at plane convex hull h live outer w trip lists hollow 0 0 (let s = some_side in omega (arith, s))

  differ : b.x ≡ a.x → b.y ≡ a.y → ⊥
  differ ex ey =
      let s0 = live_side 0 some_side in
      let z0 = cut.old (side 0) s0 in
      let r0 = cut.old (rev (side 0)) (turned (side 0) s0) in
      mesh.sound.two_ends (side 0) z0
      (hull.distinct (side 0) (rev (side 0)) z0 r0
      (ap (λ (j : ℕ). (at j).x) (start_s 0) ∙ ex ∙ sym (ap (λ (j : ℕ). (at j).x) (end_s 0 some_side)))
      (ap (λ (j : ℕ). (at j).y) (start_s 0) ∙ ey ∙ sym (ap (λ (j : ℕ). (at j).y) (end_s 0 some_side))))

  far : pos 0 <ℤ dot a a b
  far = long a b (λ ex ey. differ (sym ex) (sym ey))

  on : (z : ℕ) → IsLive t z → orient2d_of b a (at (origin_of t z)) ≡ pos 0
  on z live_z =
      let s0 = live_side 0 some_side in
      subst (λ (j : ℕ). orient2d_of (at j) a (at (origin_of t z)) ≡ pos 0) (cut.same (side 0) s0 ∙ start_s 0)
      (subst (λ (j : ℕ). orient2d_of (at (origin_of t (side 0))) (at j) (at (origin_of t z)) ≡ pos 0) (end_t (side 0) s0 ∙ end_s 0 some_side)
      (on_line (side 0) z s0 live_z))

  -- each neighbor stands on it
  on_vertex : (i : ℕ) → i ≤ k → orient2d_of b a (at (vertex i)) ≡ pos 0
  on_vertex i within = elim (cases_lt i k) [
    | inl below ↦
        (let l = live_side i below in
        subst (λ (j : ℕ). orient2d_of b a (at j) ≡ pos 0) (cut.same (side i) l ∙ start_s i) (on (side i) l))
    | inr last ↦ at_last i within last
  ]
    where
      at_last : (i : ℕ) → i ≤ k → k ≤ i → orient2d_of b a (at (vertex i)) ≡ pos 0
      at_last zero within last = absurd (let s = some_side in omega (arith, last, s))
      at_last (suc i) within last =
          let below : i < k = omega (arith, within) in
          let l = turned (side i) (live_side i below) in
          subst (λ (j : ℕ). orient2d_of b a (at j) ≡ pos 0) (end_t (side i) (live_side i below) ∙ end_s i below) (on (rev (side i)) l)

  grows : (i j : ℕ) → i < j → j ≤ k → dot (at (vertex i)) a b <ℤ dot (at (vertex j)) a b
  grows i j less within =
      let e : i + suc (j - i - 1) ≡ j = omega (arith, less) in
      let turn =
      subst (λ (n : ℕ). pos 0 <ℤ orient2d_of (at o) (at (vertex i)) (at (vertex n))) e
      (neighbors_apart m mesh triangles at plane convex hull h live outer w trip lists hollow i (j - i - 1) (omega (arith, less, within))) in
      further (at o) b a (at (vertex i)) (at (vertex j)) far (on_vertex i (omega (arith, less, within))) (on_vertex j within) left turn

  pub strung : IsStraight at t
  strung =
      straight_of t at b a far turned on
      (chain_in_order t (λ v. dot (at v) a b) k vertex side (record {
        grows = grows;
        live = live_side;
        turned = turned;
        start = λ i below. cut.same (side i) (live_side i below) ∙ start_s i;
        end = λ i below. end_t (side i) (live_side i below) ∙ end_s i below;
        all = each_side;
      }))
