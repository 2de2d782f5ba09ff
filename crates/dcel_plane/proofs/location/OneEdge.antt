-- A point lies between the ends of one edge only.
use Rattle.std.proofs.Common.{◌≡◌, ◌≢◌, ◌⊎◌, inl, inr, ℕ, ◌<◌, refl, sym, ap, ◌∙◌, subst, ℤ, pos, ◌+ℤ◌, ◌*ℤ◌, ◌<ℤ◌, ◌≤ℤ◌, eq-zero-or-pos, arith}
use Rattle.std.proofs.lemmas.Int.{by_lt_z}
use Rattle.std.proofs.lemmas.Bool.{cases_eq}
use Rattle.dcel_fixed.specs.HalfEdges.{rev}
use Rattle.dcel_fixed.proofs.Halves.{rev-rev}
use Rattle.dcel_predicates.specs.Determinants.{orient2d_of}
use Rattle.dcel_predicates.specs.declared.point.Point.{Point}
use Rattle.dcel_predicates.proofs.Signs.{ordered, times_negative, times_positive}
use Rattle.dcel_maps.specs.Shapes.{IsLive, IsMesh, Mesh, Shape, end_of, face_of, map_of, next_of, origin_of, prev_of}
use Rattle.dcel_maps.specs.Triangulations.{AllTriangles}
use Rattle.dcel_maps.proofs.maps.Soundness.{rev_live}
use Rattle.dcel_maps.proofs.maps.Triangles.{by_triangle, off_triangle}
use Rattle.dcel_maps.proofs.shapes.Maps.{map-sound}
use Rattle.dcel_plane.specs.Plane.{TrianglesTurnLeft, TurnsLeft}
use Rattle.dcel_plane.specs.covering.Covering.{IsConvex, IsHull, dot}
use Rattle.dcel_plane.specs.covering.Places.{AreDisjoint, orient_at}
use Rattle.dcel_plane.proofs.covering.Faces.{disjoint_at, not_bare}
use Rattle.dcel_plane.proofs.covering.Inside.{as_covered, as_place, closed_disjoint, near_place, other_way, place_of, split_new_apart, weighed}
use Rattle.dcel_plane.proofs.covering.Triangles.{left_at, round}
use Rattle.dcel_plane.specs.location.Locating.{LiesOn}
use Rattle.dcel_plane.proofs.location.Exact.{covers_on}
use Rattle.dcel_plane.proofs.location.Ways.{left_of_both, lies_back}

module _ {V DE UE F : Type 0} (m : Mesh V DE UE F) (mesh : IsMesh m) (triangles : AllTriangles m.shape) (at : ℕ → Point) (plane : TrianglesTurnLeft at m.shape) (v : Point)
    (convex : IsConvex at m.shape) (hull : IsHull at m.shape) where
  abbrev s : Shape
  s = m.shape

  abbrev p : ℕ → Point
  p h = at (origin_of s h)

  joined : (h : ℕ) → IsLive s h → end_of s h ≡ origin_of s (next_of s h)
  joined h live = sym (mesh.sound.joined h live)

  -- the names of the corners on both sides
  start_is : (h : ℕ) → IsLive s h → p (next_of s (rev h)) ≡ p h
  start_is h live = sym (ap at (ap (origin_of s) (sym (rev-rev h)) ∙ joined (rev h) (rev_live (map_of s) h live)))

  end_is : (h : ℕ) → IsLive s h → p (rev h) ≡ p (next_of s h)
  end_is h live = ap at (joined h live)

  -- left of the other two sides
  lefts : (h : ℕ) → IsLive s h → 0 < face_of s h → LiesOn at s v h
      → (orient2d_of (p h) (p (next_of s h)) v ≡ pos 0) × (TurnsLeft (p (next_of s h)) (p (prev_of s h)) v × TurnsLeft (p (prev_of s h)) (p h) v)
  lefts h live inner lies =
      let on : orient2d_of (p h) (p (next_of s h)) v ≡ pos 0 = subst (λ (j : ℕ). orient2d_of (p h) (at j) v ≡ pos 0) (joined h live) lies.on in
      let apart : dot (p h) (p (next_of s h)) v <ℤ pos 0 = subst (λ (j : ℕ). dot (p h) (at j) v <ℤ pos 0) (joined h live) lies.between in
      (on, left_of_both (p h) (p (next_of s h)) (p (prev_of s h)) v (left_at m mesh triangles at plane h live inner) on apart)

  -- of one triangle: it is the same side
  same_side : (h k : ℕ) → IsLive s h → 0 < face_of s h → LiesOn at s v h → IsLive s k → LiesOn at s v k → face_of s k ≡ face_of s h → k ≡ h
  same_side h k live inner lies live_k lies_k on =
      let tri = round m mesh triangles h live inner in
      let l = lefts h live inner lies in
      by_triangle (λ i. LiesOn at s v i → i ≡ h) h (next_of s h) (prev_of s h) k (
        (λ on_i. refl),
        (λ on_i. absurd
            (let z : orient2d_of (p (next_of s h)) (p (prev_of s h)) v ≡ pos 0 =
            subst (λ (j : ℕ). orient2d_of (p (next_of s h)) (p j) v ≡ pos 0) tri.next_y (subst (λ (j : ℕ). orient2d_of (p (next_of s h)) (at j) v ≡ pos 0) (joined (next_of s h) tri.live_y) on_i.on) in
            let a = l.1.0 in omega (arith, ordered, z, a))),
        (λ on_i. absurd
            (let z : orient2d_of (p (prev_of s h)) (p h) v ≡ pos 0 =
            subst (λ (j : ℕ). orient2d_of (p (prev_of s h)) (p j) v ≡ pos 0) tri.next_z (subst (λ (j : ℕ). orient2d_of (p (prev_of s h)) (at j) v ≡ pos 0) (joined (prev_of s h) tri.live_z) on_i.on) in
            let a = l.1.1 in omega (arith, ordered, z, a))),
      )
      (λ off. absurd (off_triangle (map_of s) (map-sound mesh.sound) (face_of s h) h (next_of s h) (prev_of s h) tri k live_k off on)) lies_k

  -- an edge between two triangles
  two_sides : (h k : ℕ) → IsLive s h → 0 < face_of s h → LiesOn at s v h → 0 < face_of s (rev h) → IsLive s k → 0 < face_of s k → LiesOn at s v k
      → face_of s h ≢ face_of s k → face_of s (rev h) ≢ face_of s k → ⊥
  two_sides h k live inner lies facing live_k inner_k lies_k off off_too =
      let t = rev h in
      let live_t = rev_live (map_of s) h live in
      let l = lefts h live inner lies in
      let r = lefts t live_t facing (lies_back at s v h lies) in
      let turn_t : TurnsLeft (p (next_of s h)) (p h) (p (prev_of s t)) =
      subst (λ (q : Point). TurnsLeft q (p h) (p (prev_of s t))) (end_is h live)
      (subst (λ (q : Point). TurnsLeft (p t) q (p (prev_of s t))) (start_is h live) (left_at m mesh triangles at plane t live_t facing)) in
      let apart_t : AreDisjoint (p (next_of s h)) (p h) (p (prev_of s t)) (p k) (p (next_of s k)) (p (prev_of s k)) =
      subst (λ (q : Point). AreDisjoint q (p h) (p (prev_of s t)) (p k) (p (next_of s k)) (p (prev_of s k))) (end_is h live)
      (subst (λ (q : Point). AreDisjoint (p t) q (p (prev_of s t)) (p k) (p (next_of s k)) (p (prev_of s k))) (start_is h live)
      (disjoint_at m mesh triangles at plane convex hull t k live_t facing live_k inner_k off_too)) in
      let ad : TurnsLeft (p h) (p (prev_of s t)) v = subst (λ (q : Point). TurnsLeft q (p (prev_of s t)) v) (start_is h live) r.1.0 in
      let db : TurnsLeft (p (prev_of s t)) (p (next_of s h)) v = subst (λ (q : Point). TurnsLeft (p (prev_of s t)) q v) (end_is h live) r.1.1 in
      split_new_apart (p h) (p (next_of s h)) (p (prev_of s h)) (p (prev_of s t)) (p k) (p (next_of s k)) (p (prev_of s k))
      (left_at m mesh triangles at plane h live inner) (disjoint_at m mesh triangles at plane convex hull h k live inner live_k inner_k off) apart_t
      v l.1.0 l.1.1 ad db (left_at m mesh triangles at plane k live_k inner_k) (covers_on m mesh triangles at plane v convex hull k live_k inner_k lies_k)

  -- an edge of the hull
  one_side : (h k : ℕ) → IsLive s h → 0 < face_of s h → LiesOn at s v h → face_of s (rev h) ≡ 0 → IsLive s k → 0 < face_of s k → LiesOn at s v k
      → face_of s h ≢ face_of s k → ⊥
  one_side h k live inner lies outer live_k inner_k lies_k off =
      let t = rev h in
      let live_t = rev_live (map_of s) h live in
      let l = lefts h live inner lies in
      let a = p h in let b = p (next_of s h) in let c = p (prev_of s h) in
      let x = p k in let y = p (next_of s k) in let z = p (prev_of s k) in
      let bc : pos 0 <ℤ orient_at b c (place_of v) = (let i = as_place b c v in let j = l.1.0 in omega (arith, ordered, i, j)) in
      let ca : pos 0 <ℤ orient_at c a (place_of v) = (let i = as_place c a v in let j = l.1.1 in omega (arith, ordered, i, j)) in
      let turn = left_at m mesh triangles at plane k live_k inner_k in
      let tri = round m mesh triangles k live_k inner_k in
      let near = near_place b c c a c a c a x y z (place_of v) bc ca ca ca turn (as_covered x y z v (covers_on m mesh triangles at plane v convex hull k live_k inner_k lies_k)) in
      let q = near.place in
      let right : (i : ℕ) → IsLive s i → orient2d_of b a (p i) ≤ℤ pos 0 =
      λ i live_i.
      subst (λ (e : Point). orient2d_of e a (p i) ≤ℤ pos 0) (end_is h live)
      (subst (λ (j : ℕ). orient2d_of (p t) (at j) (p i) ≤ℤ pos 0) (ap (origin_of s) (rev-rev h)) (convex.supports t i live_t outer live_i).0) in
      let below = none_above (orient_at b a q) (orient2d_of x y z) (orient_at y z q) (orient_at z x q) (orient_at x y q) (orient2d_of b a x) (orient2d_of b a y) (orient2d_of b a z)
      (weighed x y z b a q) turn near.inside.1 near.inside.2 near.inside.0 (right k live_k) (right (next_of s k) tri.live_y) (right (prev_of s k) tri.live_z) in
      let o = other_way a b q in
      let first = near.first in
      let second = near.second in
      closed_disjoint x y z a b c (λ pl one other. disjoint_at m mesh triangles at plane convex hull h k live inner live_k inner_k off pl other one)
      (left_at m mesh triangles at plane h live inner) q near.inside (omega (arith, ordered, o, below), omega (arith, ordered, first), omega (arith, ordered, second))
    where
      none_above : (t u k l n x y z : ℤ) → t *ℤ u ≡ ((k *ℤ x) +ℤ (l *ℤ y)) +ℤ (n *ℤ z) → pos 0 <ℤ u → pos 0 <ℤ k → pos 0 <ℤ l → pos 0 <ℤ n
          → x ≤ℤ pos 0 → y ≤ℤ pos 0 → z ≤ℤ pos 0 → t ≤ℤ pos 0
      none_above t u k l n x y z is hu hk hl hn hx hy hz =
          by_lt_z (pos 0) t
          (λ ht. absurd
          (let q = times_positive t u ht hu in
          let i = times_negative k x (omega (arith, ordered, hk)) hx in
          let j = times_negative l y (omega (arith, ordered, hl)) hy in
          let o = times_negative n z (omega (arith, ordered, hn)) hz in
          omega (arith, ordered, is, q, i, j, o)))
          (λ not. not)

  inner_edges : (h k : ℕ) → IsLive s h → 0 < face_of s h → LiesOn at s v h → IsLive s k → 0 < face_of s k → LiesOn at s v k → (k ≡ h) ⊎ (k ≡ rev h)
  inner_edges h k live inner lies live_k inner_k lies_k = elim (cases_eq (face_of s h) (face_of s k)) [
    | inl is ↦ inl (same_side h k live inner lies live_k lies_k (sym is))
    | inr off ↦ elim (eq-zero-or-pos (face_of s (rev h))) [
      | inl outer ↦ absurd (one_side h k live inner lies outer live_k inner_k lies_k off)
      | inr facing ↦ elim (cases_eq (face_of s (rev h)) (face_of s k)) [
        | inl is ↦ inr (same_side (rev h) k (rev_live (map_of s) h live) facing (lies_back at s v h lies) live_k lies_k (sym is))
        | inr off_too ↦ absurd (two_sides h k live inner lies facing live_k inner_k lies_k off off_too)
      ]
    ]
  ]

  -- one half of an edge lies in a triangle
  half_of : (g k : ℕ) → IsLive s g → 0 < face_of s g → IsLive s k → LiesOn at s v k → (i : ℕ) × IsLive s i × (0 < face_of s i) × LiesOn at s v i × ((i ≡ k) ⊎ (i ≡ rev k))
  half_of g k live_g inner_g live lies = elim (eq-zero-or-pos (face_of s k)) [
    | inr inner ↦ (k, live, inner, lies, inl refl)
    | inl outer ↦ elim (eq-zero-or-pos (face_of s (rev k))) [
      | inr inner ↦ (rev k, rev_live (map_of s) k live, inner, lies_back at s v k lies, inr refl)
      | inl outer_too ↦ absurd (not_bare m mesh triangles at plane convex hull k g live outer outer_too live_g inner_g)
    ]
  ]

  back_of : (i k : ℕ) → i ≡ rev k → k ≡ rev i
  back_of i k is = sym (ap rev is ∙ rev-rev k)

  pub one_edge_only : (g h k : ℕ) → IsLive s g → 0 < face_of s g → IsLive s h → LiesOn at s v h → IsLive s k → LiesOn at s v k → (k ≡ h) ⊎ (k ≡ rev h)
  one_edge_only g h k live_g inner_g live lies live_k lies_k =
      let first = half_of g h live_g inner_g live lies in
      let second = half_of g k live_g inner_g live_k lies_k in
      let i = first.0 in
      let j = second.0 in
      elim (inner_edges i j first.1 first.2 first.3 second.1 second.2 second.3) [
        | inl same ↦ elim first.4 [
          | inl is ↦ elim second.4 [ inl is_too ↦ inl (sym is_too ∙ same ∙ is) | inr back ↦ inr (back_of j k back ∙ ap rev (same ∙ is)) ]
          | inr away ↦ elim second.4 [ inl is_too ↦ inr (sym is_too ∙ same ∙ away) | inr back ↦ inl (back_of j k back ∙ ap rev (same ∙ away) ∙ rev-rev h) ]
        ]
        | inr other ↦ elim first.4 [
          | inl is ↦ elim second.4 [ inl is_too ↦ inr (sym is_too ∙ other ∙ ap rev is) | inr back ↦ inl (back_of j k back ∙ ap rev other ∙ rev-rev i ∙ is) ]
          | inr away ↦ elim second.4 [ inl is_too ↦ inl (sym is_too ∙ other ∙ ap rev away ∙ rev-rev h) | inr back ↦ inr (back_of j k back ∙ ap rev other ∙ rev-rev i ∙ away) ]
        ]
      ]
