-- Two triangles at v, where a corner of the second lies in the angle of the first or on its first side: a place lies inside both.
use Rattle.std.proofs.Common.{◌≡◌, [], ◌∷◌, ℤ, pos, ◌+ℤ◌, ◌-ℤ◌, ◌*ℤ◌, ◌<ℤ◌, ◌≤ℤ◌, refl, sym, subst, arith}
use Rattle.std.proofs.lemmas.Int.{by_lt_z}
use Rattle.dcel_predicates.specs.declared.point.Point.{Point}
use Rattle.dcel_predicates.specs.Determinants.{orient2d_of}
use Rattle.dcel_predicates.proofs.Signs.{factor_positive, ordered, square, times_positive}
use Rattle.dcel_plane.specs.covering.Places.{AreDisjoint, Place, orient_at}
use Rattle.dcel_plane.proofs.covering.Along.{none_first, none_second}
use Rattle.dcel_plane.proofs.covering.Products.{outweighs}
use Rattle.dcel_predicates.proofs.Ring.{Term, by_terms, minus, num, plus, times as by, var}
use Rattle.dcel_predicates.proofs.Terms.{Where, orient, orient_in, spot}

module _ (v a b w z : Point) (ab : pos 0 <ℤ orient2d_of v a b) (wz : pos 0 <ℤ orient2d_of v w z) (aw : pos 0 ≤ℤ orient2d_of v a w) (wb : pos 0 <ℤ orient2d_of v w b) where
  -- n times w, and z, as seen from v; and then m times v
  abbrev qx : ℤ → ℤ
  qx n = (n *ℤ (w.x -ℤ v.x)) +ℤ (z.x -ℤ v.x)

  abbrev qy : ℤ → ℤ
  qy n = (n *ℤ (w.y -ℤ v.y)) +ℤ (z.y -ℤ v.y)

  near : (n m : ℤ) → pos 0 <ℤ m → Place
  near n m more = record { x = (m *ℤ v.x) +ℤ qx n; y = (m *ℤ v.y) +ℤ qy n; w = m; above = more }

  abbrev cross : ℤ → Point → Point → ℤ
  cross n c d = ((d.x -ℤ c.x) *ℤ qy n) -ℤ ((d.y -ℤ c.y) *ℤ qx n)

  -- as terms: v, c, d, w, z, and the numbers n and m
  nx : Term
  nx = plus (by (var 10) (minus (spot 3).x (spot 0).x)) (minus (spot 4).x (spot 0).x)

  ny : Term
  ny = plus (by (var 10) (minus (spot 3).y (spot 0).y)) (minus (spot 4).y (spot 0).y)

  near_in : Where
  near_in = record { x = plus (by (var 11) (spot 0).x) nx; y = plus (by (var 11) (spot 0).y) ny; w = var 11 }

  opposite : (n m : ℤ) (more : pos 0 <ℤ m) (c d : Point) → orient_at c d (near n m more) ≡ (m *ℤ orient2d_of v c d) +ℤ cross n c d
  unfolding near nx ny near_in
  opposite n m more c d =
      by_terms (v.x ∷ v.y ∷ c.x ∷ c.y ∷ d.x ∷ d.y ∷ w.x ∷ w.y ∷ z.x ∷ z.y ∷ n ∷ m ∷ []) (orient_in (spot 1) (spot 2) near_in)
      (plus (by (var 11) (orient (spot 0) (spot 1) (spot 2))) (minus (by (minus (spot 2).x (spot 1).x) ny) (by (minus (spot 2).y (spot 1).y) nx))) refl

  from_v : (n m : ℤ) (more : pos 0 <ℤ m) (c : Point) → orient_at v c (near n m more) ≡ (n *ℤ orient2d_of v c w) +ℤ orient2d_of v c z
  unfolding near nx ny near_in
  from_v n m more c =
      by_terms (v.x ∷ v.y ∷ c.x ∷ c.y ∷ c.x ∷ c.y ∷ w.x ∷ w.y ∷ z.x ∷ z.y ∷ n ∷ m ∷ []) (orient_in (spot 0) (spot 1) near_in)
      (plus (by (var 10) (orient (spot 0) (spot 1) (spot 3))) (orient (spot 0) (spot 1) (spot 4))) refl

  to_v : (n m : ℤ) (more : pos 0 <ℤ m) (c : Point) → orient_at c v (near n m more) ≡ (n *ℤ orient2d_of v w c) +ℤ orient2d_of v z c
  unfolding near nx ny near_in
  to_v n m more c =
      by_terms (v.x ∷ v.y ∷ c.x ∷ c.y ∷ c.x ∷ c.y ∷ w.x ∷ w.y ∷ z.x ∷ z.y ∷ n ∷ m ∷ []) (orient_in (spot 1) (spot 0) near_in)
      (plus (by (var 10) (orient (spot 0) (spot 3) (spot 1))) (orient (spot 0) (spot 4) (spot 1))) refl

  on_itself : orient2d_of v w w ≡ pos 0
  on_itself = by_terms (v.x ∷ v.y ∷ w.x ∷ w.y ∷ []) (orient (spot 0) (spot 1) (spot 1)) (num (pos 0)) refl

  z_on_itself : orient2d_of v z z ≡ pos 0
  z_on_itself = by_terms (v.x ∷ v.y ∷ z.x ∷ z.y ∷ []) (orient (spot 0) (spot 1) (spot 1)) (num (pos 0)) refl

  -- where w lies in the direction of a, z lies left of it
  az : orient2d_of v a w ≡ pos 0 → pos 0 <ℤ orient2d_of v a z
  az zero_turn =
      let e = by_terms (v.x ∷ v.y ∷ a.x ∷ a.y ∷ b.x ∷ b.y ∷ w.x ∷ w.y ∷ z.x ∷ z.y ∷ []) (by (orient (spot 0) (spot 1) (spot 2)) (orient (spot 0) (spot 3) (spot 4)))
      (plus (by (orient (spot 0) (spot 1) (spot 3)) (orient (spot 0) (spot 2) (spot 4))) (by (orient (spot 0) (spot 3) (spot 2)) (orient (spot 0) (spot 1) (spot 4)))) refl in
      let p = times_positive (orient2d_of v a b) (orient2d_of v w z) ab wz in
      let q = none_first (orient2d_of v a w) (orient2d_of v b z) zero_turn in
      factor_positive (orient2d_of v w b) (orient2d_of v a z) wb (omega (arith, ordered, e, p, q))

  pub overlap : AreDisjoint v a b v w z → ⊥
  overlap disjoint =
      let c = orient2d_of v a z in
      let d = orient2d_of v z b in
      let n = pos 1 +ℤ (c *ℤ c) +ℤ (d *ℤ d) in
      let sc = square c in
      let sd = square d in
      let f = cross n a b in
      let g = cross n w z in
      let m = pos 1 +ℤ (f *ℤ f) +ℤ (g *ℤ g) in
      let sf = square f in
      let sg = square g in
      let more_n : pos 0 <ℤ n = omega (arith, ordered, sc, sd) in
      let more : pos 0 <ℤ m = omega (arith, ordered, sf, sg) in
      let place = near n m more in
      let nwz = times_positive n (orient2d_of v w z) more_n wz in
      let first : pos 0 <ℤ ((n *ℤ orient2d_of v a w) +ℤ c) =
      by_lt_z (pos 0) (orient2d_of v a w) (λ is. outweighs n (orient2d_of v a w) c is (omega (arith, ordered, sd)))
      (λ not.
      let zero_turn : orient2d_of v a w ≡ pos 0 = omega (arith, ordered, aw, not) in
      let l = az zero_turn in
      let o = none_second n (orient2d_of v a w) zero_turn in
      omega (arith, ordered, l, o)) in
      disjoint place (
        subst (λ k. pos 0 <ℤ k) (sym (from_v n m more a)) first,
        subst (λ k. pos 0 <ℤ k) (sym (opposite n m more a b)) (outweighs m (orient2d_of v a b) f ab (omega (arith, ordered, sg))),
        subst (λ k. pos 0 <ℤ k) (sym (to_v n m more b)) (outweighs n (orient2d_of v w b) d wb (omega (arith, ordered, sc))),
      ) (
        subst (λ k. pos 0 <ℤ k) (sym (from_v n m more w)) (let o = none_second n (orient2d_of v w w) on_itself in omega (arith, ordered, o, wz)),
        subst (λ k. pos 0 <ℤ k) (sym (opposite n m more w z)) (outweighs m (orient2d_of v w z) g wz (omega (arith, ordered, sf))),
        subst (λ k. pos 0 <ℤ k) (sym (to_v n m more z)) (let o = z_on_itself in omega (arith, ordered, o, nwz)),
      )
