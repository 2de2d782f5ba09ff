-- Two edges that would cross each other, and what lies on an edge.
use Rattle.std.proofs.Common.{◌≡◌, [], ◌∷◌, ℕ, ℤ, pos, ◌+ℤ◌, ◌-ℤ◌, ◌*ℤ◌, ◌<ℤ◌, ◌≤ℤ◌, refl, sym, ap, ◌∙◌, subst, arith}
use Rattle.std.proofs.lemmas.Int.{by_lt_z}
use Rattle.std.proofs.Math.IntN.{*ℤ_comm}
use Rattle.dcel_predicates.specs.declared.point.Point.{Point}
use Rattle.dcel_predicates.specs.Determinants.{orient2d_of}
use Rattle.dcel_predicates.proofs.Points.{orient2d-turned}
use Rattle.dcel_predicates.proofs.Ring.{Term, by_terms, minus, plus, times as by}
use Rattle.dcel_predicates.proofs.Signs.{both_negative, ordered, square, times, times_negative, times_positive}
use Rattle.dcel_predicates.proofs.Terms.{orient, orient_in, spot}
use Rattle.dcel_plane.specs.covering.Places.{AreDisjoint, IsIn, IsStrictlyIn, Place, orient_at}
use Rattle.dcel_plane.proofs.covering.Along.{none_second}
use Rattle.dcel_plane.proofs.covering.Inside.{as_place, closed_disjoint, nudged, nudged-is, on_end, on_start, place_of}
use Rattle.dcel_plane.proofs.covering.Products.{below_times, outweighs}

-- A point y on the line from o to e and on one that has o on its right and e on its left lies in the triangle with the corner c.
module _ (v w o e c y : Point) (right : orient2d_of v w o <ℤ pos 0) (left : pos 0 <ℤ orient2d_of v w e) (on : orient2d_of v w y ≡ pos 0)
    (on_edge : orient2d_of o e y ≡ pos 0) (turn : pos 0 <ℤ orient2d_of o e c) where
  shares : orient2d_of o e c *ℤ orient2d_of v w y
      ≡ ((orient2d_of e c y *ℤ orient2d_of v w o) +ℤ (orient2d_of c o y *ℤ orient2d_of v w e)) +ℤ (orient2d_of o e y *ℤ orient2d_of v w c)
  shares =
      by_terms (v.x ∷ v.y ∷ w.x ∷ w.y ∷ o.x ∷ o.y ∷ e.x ∷ e.y ∷ c.x ∷ c.y ∷ y.x ∷ y.y ∷ [])
      (by (orient (spot 2) (spot 3) (spot 4)) (orient (spot 0) (spot 1) (spot 5)))
      (plus (plus (by (orient (spot 3) (spot 4) (spot 5)) (orient (spot 0) (spot 1) (spot 2))) (by (orient (spot 4) (spot 2) (spot 5)) (orient (spot 0) (spot 1) (spot 3))))
      (by (orient (spot 2) (spot 3) (spot 5)) (orient (spot 0) (spot 1) (spot 4)))) refl

  whole : orient2d_of o e c ≡ (orient2d_of e c y +ℤ orient2d_of c o y) +ℤ orient2d_of o e y
  whole =
      by_terms (o.x ∷ o.y ∷ e.x ∷ e.y ∷ c.x ∷ c.y ∷ y.x ∷ y.y ∷ []) (orient (spot 0) (spot 1) (spot 2))
      (plus (plus (orient (spot 1) (spot 2) (spot 3)) (orient (spot 2) (spot 0) (spot 3))) (orient (spot 0) (spot 1) (spot 3))) refl

  pub on_edge_in : (pos 0 ≤ℤ orient2d_of e c y) × (pos 0 ≤ℤ orient2d_of c o y)
  on_edge_in =
      balanced (orient2d_of e c y) (orient2d_of c o y) (orient2d_of v w o) (orient2d_of v w e) right left
      (let s = shares in
      let a = none_second (orient2d_of o e c) (orient2d_of v w y) on in
      let b = *ℤ_comm (orient2d_of o e y) (orient2d_of v w c) in
      let d = none_second (orient2d_of v w c) (orient2d_of o e y) on_edge in
      omega (arith, ordered, s, a, b, d))
      (let t = whole in omega (arith, ordered, t, on_edge, turn))
    where
      balanced : (a b r l : ℤ) → r <ℤ pos 0 → pos 0 <ℤ l → (a *ℤ r) +ℤ (b *ℤ l) ≡ pos 0 → pos 0 <ℤ (a +ℤ b) → (pos 0 ≤ℤ a) × (pos 0 ≤ℤ b)
      balanced a b r l hr hl none some = (
        by_lt_z a (pos 0)
            (λ less. absurd
            (let p = both_negative a r (omega (arith, ordered, less)) (omega (arith, ordered, hr)) in
            let q = times_positive b l (omega (arith, ordered, less, some)) hl in
            omega (arith, ordered, none, p, q)))
            (λ not. not),
        by_lt_z b (pos 0)
            (λ less. absurd
            (let p = times_negative a r (omega (arith, ordered, less, some)) (omega (arith, ordered, hr)) in
            let q = below_times b l less hl in
            omega (arith, ordered, none, p, q)))
            (λ not. not),
      )

-- The edge from o to e crosses that from v to y, and both have a triangle.
module _ (v y c o e x : Point) (right : orient2d_of v y o <ℤ pos 0) (left : pos 0 <ℤ orient2d_of v y e) (near : pos 0 <ℤ orient2d_of o e v) (far : orient2d_of o e y <ℤ pos 0)
    (turn : pos 0 <ℤ orient2d_of v y c) (turn_too : pos 0 <ℤ orient2d_of o e x) where
  abbrev off : Point → ℤ
  off p = orient2d_of v y p

  -- where they cross
  crossing : Place
  crossing = record {
    x = (off e *ℤ o.x) -ℤ (off o *ℤ e.x);
    y = (off e *ℤ o.y) -ℤ (off o *ℤ e.y);
    w = off e -ℤ off o;
    above = omega (arith, ordered, right, left);
  }

  by_edge : (a b : Point) → orient_at a b crossing ≡ (off e *ℤ orient2d_of a b o) -ℤ (off o *ℤ orient2d_of a b e)
  unfolding crossing
  by_edge a b =
      by_terms (v.x ∷ v.y ∷ y.x ∷ y.y ∷ o.x ∷ o.y ∷ e.x ∷ e.y ∷ a.x ∷ a.y ∷ b.x ∷ b.y ∷ [])
      (orient_in (spot 4) (spot 5)
      (record {
        x = minus (by (over 3) (spot 2).x) (by (over 2) (spot 3).x);
        y = minus (by (over 3) (spot 2).y) (by (over 2) (spot 3).y);
        w = minus (over 3) (over 2);
      }))
      (minus (by (over 3) (orient (spot 4) (spot 5) (spot 2))) (by (over 2) (orient (spot 4) (spot 5) (spot 3)))) refl
    where
      over : ℕ → Term
      over n = orient (spot 0) (spot 1) (spot n)

  by_segment : (a b : Point) → orient_at a b crossing ≡ (orient2d_of o e v *ℤ orient2d_of a b y) -ℤ (orient2d_of o e y *ℤ orient2d_of a b v)
  unfolding crossing
  by_segment a b =
      by_terms (v.x ∷ v.y ∷ y.x ∷ y.y ∷ o.x ∷ o.y ∷ e.x ∷ e.y ∷ a.x ∷ a.y ∷ b.x ∷ b.y ∷ [])
      (orient_in (spot 4) (spot 5)
      (record {
        x = minus (by (over 3) (spot 2).x) (by (over 2) (spot 3).x);
        y = minus (by (over 3) (spot 2).y) (by (over 2) (spot 3).y);
        w = minus (over 3) (over 2);
      }))
      (minus (by (orient (spot 2) (spot 3) (spot 0)) (orient (spot 4) (spot 5) (spot 1))) (by (orient (spot 2) (spot 3) (spot 1)) (orient (spot 4) (spot 5) (spot 0)))) refl
    where
      over : ℕ → Term
      over n = orient (spot 0) (spot 1) (spot n)

  -- a place near it on the way to e lies inside the one triangle, and on the border of the other one
  abbrev many : ℤ
  many = ((orient2d_of y c e *ℤ orient2d_of y c e) +ℤ (orient2d_of c v e *ℤ orient2d_of c v e)) +ℤ pos 1

  many_above : pos 0 <ℤ many
  many_above = (let p = square (orient2d_of y c e) in let q = square (orient2d_of c v e) in omega (arith, ordered, p, q))

  beside : Place
  beside = nudged many many_above crossing (place_of e)

  beside_is : (a b : Point) → orient_at a b beside ≡ (many *ℤ orient_at a b crossing) +ℤ orient2d_of a b e
  unfolding beside
  beside_is a b = nudged-is many many_above crossing (place_of e) a b ∙ ap (λ i. (many *ℤ orient_at a b crossing) +ℤ i) (as_place a b e)

  -- what a product of nothing leaves
  less_nothing : (t a b k z : ℤ) → t ≡ (a *ℤ z) -ℤ (b *ℤ k) → z ≡ pos 0 → t ≡ pos 0 -ℤ (b *ℤ k)
  less_nothing t a b k z is none = (let e = none_second a z none in omega (arith, ordered, is, e))

  more_nothing : (t a b k z : ℤ) → t ≡ (a *ℤ k) -ℤ (b *ℤ z) → z ≡ pos 0 → t ≡ a *ℤ k
  more_nothing t a b k z is none = (let e = none_second b z none in omega (arith, ordered, is, e))

  seen_v : pos 0 <ℤ orient2d_of y c v
  seen_v = subst (λ z. pos 0 <ℤ z) (sym (orient2d-turned v y c)) turn

  seen_y : pos 0 <ℤ orient2d_of c v y
  seen_y = subst (λ z. pos 0 <ℤ z) (orient2d-turned c v y) turn

  seen_o : pos 0 <ℤ orient2d_of e x o
  seen_o = subst (λ z. pos 0 <ℤ z) (sym (orient2d-turned o e x)) turn_too

  seen_e : pos 0 <ℤ orient2d_of x o e
  seen_e = subst (λ z. pos 0 <ℤ z) (orient2d-turned x o e) turn_too

  inside : IsStrictlyIn v y c beside
  inside = (
    (let a = beside_is v y in
        let b = by_edge v y in
        let d = *ℤ_comm (off e) (off o) in
        let z = none_second many (orient_at v y crossing) (omega (arith, ordered, b, d)) in
        omega (arith, ordered, a, z, left)),
    subst (λ z. pos 0 <ℤ z) (sym (beside_is y c))
        (outweighs many (orient_at y c crossing) (orient2d_of y c e)
        (let k = less_nothing (orient_at y c crossing) (orient2d_of o e v) (orient2d_of o e y) (orient2d_of y c v) (orient2d_of y c y) (by_segment y c) (on_end y c) in
        let t = below_times (orient2d_of o e y) (orient2d_of y c v) far seen_v in
        omega (arith, ordered, k, t))
        (let q = square (orient2d_of c v e) in omega (arith, ordered, q))),
    subst (λ z. pos 0 <ℤ z) (sym (beside_is c v))
        (outweighs many (orient_at c v crossing) (orient2d_of c v e)
        (let k = more_nothing (orient_at c v crossing) (orient2d_of o e v) (orient2d_of o e y) (orient2d_of c v y) (orient2d_of c v v) (by_segment c v) (on_start c v) in
        let t = times_positive (orient2d_of o e v) (orient2d_of c v y) near seen_y in
        omega (arith, ordered, k, t))
        (let q = square (orient2d_of y c e) in omega (arith, ordered, q))),
  )

  on_border : IsIn o e x beside
  on_border = (
    (let a = beside_is o e in
        let b = by_edge o e in
        let p = none_second (off e) (orient2d_of o e o) (on_end o e) in
        let q = none_second (off o) (orient2d_of o e e) (on_start o e) in
        let z = none_second many (orient_at o e crossing) (omega (arith, ordered, b, p, q)) in
        let n = on_start o e in
        omega (arith, ordered, a, z, n)),
    (let a = beside_is e x in
        let b = more_nothing (orient_at e x crossing) (off e) (off o) (orient2d_of e x o) (orient2d_of e x e) (by_edge e x) (on_end e x) in
        let p = times_positive (off e) (orient2d_of e x o) left seen_o in
        let q = times many (orient_at e x crossing) (omega (arith, ordered, many_above)) (omega (arith, ordered, b, p)) in
        let n = on_end e x in
        omega (arith, ordered, a, q, n)),
    (let a = beside_is x o in
        let b = less_nothing (orient_at x o crossing) (off e) (off o) (orient2d_of x o e) (orient2d_of x o o) (by_edge x o) (on_start x o) in
        let p = below_times (off o) (orient2d_of x o e) right seen_e in
        let q = times many (orient_at x o crossing) (omega (arith, ordered, many_above)) (omega (arith, ordered, b, p)) in
        omega (arith, ordered, a, q, seen_e)),
  )

  pub edges_apart : AreDisjoint v y c o e x → ⊥
  edges_apart disjoint = closed_disjoint v y c o e x disjoint turn_too beside inside on_border
