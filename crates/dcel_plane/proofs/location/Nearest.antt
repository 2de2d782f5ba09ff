-- A vertex none of whose neighbors is nearer to a point than itself is nearest to it.
use Rattle.std.proofs.Common.{◌≡◌, ℕ, ◌<◌, [], ◌∷◌, refl, sym, ap, ◌∙◌, subst, ℤ, pos, ◌+ℤ◌, ◌-ℤ◌, ◌*ℤ◌, ◌<ℤ◌, ◌≤ℤ◌, arith}
use Rattle.std.proofs.lemmas.Int.{by_lt_z}
use Rattle.dcel_fixed.specs.HalfEdges.{rev}
use Rattle.dcel_fixed.proofs.Halves.{rev-rev}
use Rattle.dcel_predicates.specs.Determinants.{incircle_of, orient2d_of, squared_distance_of}
use Rattle.dcel_predicates.specs.declared.point.Point.{Point}
use Rattle.dcel_predicates.proofs.Points.{incircle-turned}
use Rattle.dcel_predicates.proofs.Ring.{by_terms, minus, plus, times as by}
use Rattle.dcel_predicates.proofs.Signs.{ordered, times}
use Rattle.dcel_predicates.proofs.Terms.{incircle, lift, orient, spot}
use Rattle.dcel_maps.specs.Shapes.{IsLive, IsMesh, Mesh, Shape, end_of, face_of, map_of, next_of, origin_of, prev_of}
use Rattle.dcel_maps.proofs.maps.Soundness.{rev_live}
use Rattle.dcel_plane.specs.covering.Delaunay.{IsDelaunayTriangulation}
use Rattle.dcel_plane.specs.covering.Covering.{dot}
use Rattle.dcel_plane.proofs.covering.Along.{dot_in, dot_start, dot_swapped, none_first, one_place}
use Rattle.dcel_plane.proofs.covering.Circles.{no_vertex_inside}
use Rattle.dcel_plane.proofs.covering.Cones.{nothing}
use Rattle.dcel_plane.proofs.covering.Faces.{corner_of}
use Rattle.dcel_plane.proofs.covering.Inside.{as_place, on_end, on_start, place_of}
use Rattle.dcel_plane.proofs.covering.Products.{factor_not_below, not_above}
use Rattle.dcel_plane.proofs.covering.Starts.{by_starts, inner_half, out_of}
use Rattle.dcel_plane.proofs.covering.Triangles.{at_half, left_at, round}
use Rattle.dcel_plane.specs.hull.Straight.{IsStraight, dot_of_steps}
use Rattle.dcel_plane.proofs.hull.OneLine.{apart_up, near_down}
use Rattle.dcel_plane.proofs.hull.Thin.{back_dot}
use Rattle.dcel_plane.specs.location.Nearest.{HasNoNearerNeighbor, IsNearest}
use Rattle.dcel_plane.proofs.location.OnLine.{far, on_too}

-- how much farther from q than v the point w is, by a triangle of v whose angle there it lies in: the circle is empty
module _ (v a b w q : Point) where
  abbrev farther : Point → ℤ
  farther p = squared_distance_of p q -ℤ squared_distance_of v q

  weighed : orient2d_of v a b *ℤ farther w ≡ ((orient2d_of v a w *ℤ farther b) +ℤ (orient2d_of b v w *ℤ farther a)) -ℤ incircle_of v a b w
  weighed =
      by_terms (v.x ∷ v.y ∷ a.x ∷ a.y ∷ b.x ∷ b.y ∷ w.x ∷ w.y ∷ q.x ∷ q.y ∷ [])
      (by (orient (spot 0) (spot 1) (spot 2)) (minus (lift (spot 3) (spot 4)) (lift (spot 0) (spot 4))))
      (minus (plus (by (orient (spot 0) (spot 1) (spot 3)) (minus (lift (spot 2) (spot 4)) (lift (spot 0) (spot 4))))
      (by (orient (spot 2) (spot 0) (spot 3)) (minus (lift (spot 1) (spot 4)) (lift (spot 0) (spot 4)))))
      (incircle (spot 0) (spot 1) (spot 2) (spot 3))) refl

  in_angle : pos 0 <ℤ orient2d_of v a b → pos 0 ≤ℤ orient2d_of v a w → pos 0 ≤ℤ orient2d_of b v w → incircle_of v a b w ≤ℤ pos 0
      → squared_distance_of v q ≤ℤ squared_distance_of a q → squared_distance_of v q ≤ℤ squared_distance_of b q → squared_distance_of v q ≤ℤ squared_distance_of w q
  in_angle turn first second empty near_a near_b =
      let s = times (orient2d_of v a w) (farther b) first (omega (arith, ordered, near_b)) in
      let t = times (orient2d_of b v w) (farther a) second (omega (arith, ordered, near_a)) in
      let e = weighed in
      let more = factor_not_below (orient2d_of v a b) (farther w) turn (omega (arith, ordered, e, s, t, empty)) in
      omega (arith, ordered, more)

-- the same on a line, by a neighbor a of v that w lies beyond
module _ (v a w q : Point) where
  along : dot a a v *ℤ (squared_distance_of w q -ℤ squared_distance_of v q)
      ≡ ((dot w a v *ℤ (dot w a v -ℤ dot a a v)) +ℤ (dot w a v *ℤ (squared_distance_of a q -ℤ squared_distance_of v q))) +ℤ (orient2d_of v a w *ℤ (orient2d_of v a w -ℤ (orient2d_of v a q +ℤ orient2d_of v a q)))
  along =
      by_terms (v.x ∷ v.y ∷ a.x ∷ a.y ∷ w.x ∷ w.y ∷ q.x ∷ q.y ∷ [])
      (by (dot_in (spot 1) (spot 1) (spot 0)) (minus (lift (spot 2) (spot 3)) (lift (spot 0) (spot 3))))
      (plus (plus (by (dot_in (spot 2) (spot 1) (spot 0)) (minus (dot_in (spot 2) (spot 1) (spot 0)) (dot_in (spot 1) (spot 1) (spot 0))))
      (by (dot_in (spot 2) (spot 1) (spot 0)) (minus (lift (spot 1) (spot 3)) (lift (spot 0) (spot 3)))))
      (by (orient (spot 0) (spot 1) (spot 2)) (minus (orient (spot 0) (spot 1) (spot 2)) (plus (orient (spot 0) (spot 1) (spot 3)) (orient (spot 0) (spot 1) (spot 3)))))) refl

  past_neighbor : pos 0 <ℤ dot a a v → dot a a v ≤ℤ dot w a v → orient2d_of v a w ≡ pos 0 → squared_distance_of v q ≤ℤ squared_distance_of a q → squared_distance_of v q ≤ℤ squared_distance_of w q
  past_neighbor long past on near =
      let s = times (dot w a v) (dot w a v -ℤ dot a a v) (omega (arith, ordered, long, past)) (omega (arith, ordered, past)) in
      let t = times (dot w a v) (squared_distance_of a q -ℤ squared_distance_of v q) (omega (arith, ordered, long, past)) (omega (arith, ordered, near)) in
      let z = none_first (orient2d_of v a w) (orient2d_of v a w -ℤ (orient2d_of v a q +ℤ orient2d_of v a q)) on in
      let e = along in
      let more = factor_not_below (dot a a v) (squared_distance_of w q -ℤ squared_distance_of v q) long (omega (arith, ordered, e, s, t, z)) in
      omega (arith, ordered, more)

module _ {V DE UE F : Type 0} (m : Mesh V DE UE F) (mesh : IsMesh m) (at : ℕ → Point) (q : Point) where
  abbrev s : Shape
  s = m.shape

  abbrev p : ℕ → Point
  p h = at (origin_of s h)

  abbrev e : ℕ → Point
  e h = at (end_of s h)

  module _ (known : IsDelaunayTriangulation at s) where
    -- by a triangle of the vertex
    by_triangle : (x k : ℕ) → IsLive s x → 0 < face_of s x → IsLive s k → HasNoNearerNeighbor at s q (origin_of s x)
        → pos 0 ≤ℤ orient2d_of (p x) (p (next_of s x)) (p k) → pos 0 ≤ℤ orient2d_of (p (prev_of s x)) (p x) (p k) → squared_distance_of (p x) q ≤ℤ squared_distance_of (p k) q
    by_triangle x k live inner live_k near first second =
        let b = prev_of s x in
        let tri = round m mesh known.triangles x live inner in
        let starts : origin_of s (rev b) ≡ origin_of s x = sym (mesh.sound.joined b tri.live_z) ∙ ap (origin_of s) tri.next_z in
        let near_a : squared_distance_of (p x) q ≤ℤ squared_distance_of (p (next_of s x)) q = subst (λ (i : ℕ). squared_distance_of (p x) q ≤ℤ squared_distance_of (at i) q) (sym (mesh.sound.joined x live)) (near x live refl) in
        let near_b : squared_distance_of (p x) q ≤ℤ squared_distance_of (p b) q =
        subst (λ (i : ℕ). squared_distance_of (p x) q ≤ℤ squared_distance_of (p i) q) (rev-rev b) (near (rev b) (rev_live (map_of s) b tri.live_z) starts) in
        in_angle (p x) (p (next_of s x)) (p b) (p k) q (left_at m mesh known.triangles at known.delaunay.plane x live inner) first second
        (at_half m mesh known.triangles (λ i j l. incircle_of (p i) (p j) (p l) (p k) ≤ℤ pos 0)
        (λ i j l holds. subst (λ z. z ≤ℤ pos 0) (sym (incircle-turned (p i) (p j) (p l) (p k))) holds)
        (λ f i j l inner_f is. not_above (incircle_of (p i) (p j) (p l) (p k)) ((no_vertex_inside m mesh known.triangles at known.delaunay known.convex known.hull).empty f i j l k inner_f is live_k))
        x live inner)
        near_a near_b

    -- the triangles of the vertex leave out no direction in which a vertex lies
    by_angles : (x k : ℕ) → IsLive s x → 0 < face_of s x → IsLive s k → HasNoNearerNeighbor at s q (origin_of s x) → squared_distance_of (p x) q ≤ℤ squared_distance_of (p k) q
    by_angles x k live inner live_k near =
        by_lt_z (squared_distance_of (p k) q) (squared_distance_of (p x) q)
        (λ less. absurd
        (nothing m mesh known.triangles at known.delaunay.plane (place_of (p k))
        (λ h live_h outer. subst (λ z. z ≤ℤ pos 0) (sym (as_place (p h) (p (rev h)) (p k))) (known.convex.supports h k live_h outer live_k).0) (origin_of s x)
        (λ y spoke within.
        let closer = by_triangle y k spoke.live spoke.inner live_k (subst (λ (i : ℕ). HasNoNearerNeighbor at s q i) (sym spoke.from) near)
        (subst (λ z. pos 0 ≤ℤ z) (as_place (p y) (p (next_of s y)) (p k)) within.0) (subst (λ z. pos 0 ≤ℤ z) (as_place (p (prev_of s y)) (p y) (p k)) within.1) in
        let same : squared_distance_of (p x) q ≤ℤ squared_distance_of (p k) q = subst (λ (i : ℕ). squared_distance_of (at i) q ≤ℤ squared_distance_of (p k) q) spoke.from closer in
        omega (arith, ordered, less, same))
        x record { live = live; inner = inner; from = refl }))
        (λ not. not)

    pub nearest : (v : ℕ) → v < s.vertices → HasNoNearerNeighbor at s q v → IsNearest at s q v
    nearest v below near w below_w =
        let some = inner_half m mesh known.closed known.inner in
        let out = out_of m mesh known.closed v below (known.connected v below) in
        let corner = corner_of m mesh known.triangles at known.delaunay.plane known.convex known.hull out.0 some.0 out.1 some.1 some.2 in
        let is : origin_of s corner.0 ≡ v = corner.3 ∙ out.2 in
        by_starts m mesh known.closed known.connected (λ (i : ℕ). squared_distance_of (at v) q ≤ℤ squared_distance_of (at i) q)
        (λ k live_k. subst (λ (i : ℕ). squared_distance_of (at i) q ≤ℤ squared_distance_of (p k) q) is
        (by_angles corner.0 k corner.1 corner.2 live_k (subst (λ (i : ℕ). HasNoNearerNeighbor at s q i) (sym is) near)))
        w below_w

  module _ (straight : IsStraight at s) where
    back : (h : ℕ) → IsLive s h → IsLive s (rev h)
    back h live = rev_live (map_of s) h live

    -- by a neighbor of the vertex on the same side
    ahead : (h k : ℕ) → IsLive s h → IsLive s k → squared_distance_of (p h) q ≤ℤ squared_distance_of (e h) q → pos 0 <ℤ dot (p k) (e h) (p h) → squared_distance_of (p h) q ≤ℤ squared_distance_of (p k) q
    ahead h k live live_k near more =
        let v = p h in
        let a = e h in
        let w = p k in
        let l = far m mesh at straight h live in
        let on = straight.line h k live live_k in
        let z = dot_start a v in
        past_neighbor v a w q l
        (by_lt_z (dot w a v) (dot a a v)
        (λ less. absurd
        (let b = straight.between h k live live_k in
        let c = apart_up v a v a w l (on_end v a) (on_start v a) on (omega (arith, ordered, z, more)) less in
        omega (arith, ordered, b, c)))
        (λ not. not))
        on near

    -- the same on the other side, where another neighbor is
    behind : (h k g : ℕ) → IsLive s h → IsLive s k → IsLive s g → origin_of s g ≡ origin_of s h → HasNoNearerNeighbor at s q (origin_of s h)
        → dot (p k) (e h) (p h) <ℤ pos 0 → pos 0 <ℤ dot_of_steps (e h) (p h) (e g) → squared_distance_of (p h) q ≤ℤ squared_distance_of (p k) q
    behind h k g live live_k live_g starts near less past =
        let v = p h in
        let a = e h in
        let z = dot_start a v in
        let b = back_dot a v (e g) in
        let c = dot_swapped a (e g) v in
        let there : pos 0 <ℤ dot (p k) (e g) v =
        near_down v a (p k) (e g) v (far m mesh at straight h live) (straight.line h k live live_k) (on_too m mesh at straight h g live live_g) (on_end v a)
        (omega (arith, ordered, z, less)) (omega (arith, ordered, z, past, b, c)) in
        subst (λ (i : ℕ). squared_distance_of (at i) q ≤ℤ squared_distance_of (p k) q) starts
        (ahead g k live_g live_k (subst (λ (i : ℕ). squared_distance_of (at i) q ≤ℤ squared_distance_of (e g) q) (sym starts) (near g live_g starts))
        (subst (λ (i : ℕ). pos 0 <ℤ dot (p k) (e g) (at i)) (sym starts) there))

    pub nearest_on_line : (h k : ℕ) → IsLive s h → IsLive s k → HasNoNearerNeighbor at s q (origin_of s h) → squared_distance_of (p h) q ≤ℤ squared_distance_of (p k) q
    nearest_on_line h k live live_k near =
        let v = p h in
        let a = e h in
        let w = p k in
        let z = dot_start a v in
        by_lt_z (pos 0) (dot w a v) (λ more. ahead h k live live_k (near h live refl) more)
        (λ not. by_lt_z (dot w a v) (pos 0)
        (λ less.
        let b = back_dot a v w in
        let c = dot_swapped a w v in
        let past : pos 0 <ℤ dot_of_steps a (p (rev (rev h))) w = subst (λ (i : ℕ). pos 0 <ℤ dot_of_steps a (p i) w) (sym (rev-rev h)) (omega (arith, ordered, b, c, less)) in
        let (g, live_g, starts, more) = straight.onward (rev h) k (back h live) live_k past in
        behind h k g live live_k live_g (subst (λ (i : ℕ). origin_of s g ≡ origin_of s i) (rev-rev h) starts) near less
        (subst (λ (i : ℕ). pos 0 <ℤ dot_of_steps a (p i) (e g)) (rev-rev h) more))
        (λ nor.
        let one = one_place v a w v (far m mesh at straight h live) (straight.line h k live live_k) (on_end v a) (omega (arith, ordered, not, nor, z)) in
        same_distance w v one.0 one.1))
      where
        same_distance : (a b : Point) → a.x ≡ b.x → a.y ≡ b.y → squared_distance_of b q ≤ℤ squared_distance_of a q
        same_distance a b ex ey = rw (ex, ey) (omega (arith, ordered))
