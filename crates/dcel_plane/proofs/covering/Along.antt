-- Points on a line: in what order they lie along it, when they are one, and that a triangle's corners aren't on one.
use Rattle.std.proofs.Common.{◌≡◌, ◌⊎◌, inl, inr, ℕ, [], ◌∷◌, ℤ, pos, ◌+ℤ◌, ◌-ℤ◌, ◌*ℤ◌, ◌<ℤ◌, ◌≤ℤ◌, refl, sym, ap, ◌∙◌, arith}
use Rattle.std.proofs.lemmas.Int.{by_lt_z}
use Rattle.std.proofs.Math.IntN.{*ℤ_comm, *ℤ-zero}
use Rattle.dcel_fixed.specs.HalfEdges.{rev}
use Rattle.dcel_predicates.specs.Determinants.{orient2d_of}
use Rattle.dcel_predicates.specs.declared.point.Point.{Point}
use Rattle.dcel_predicates.proofs.Ring.{Term, by_terms, minus, num, plus, times as by}
use Rattle.dcel_predicates.proofs.Signs.{both_negative, ordered, square, times, times_negative, times_positive}
use Rattle.dcel_predicates.proofs.Terms.{Spot, orient, spot, orient_in}
use Rattle.dcel_maps.specs.Shapes.{IsLive, IsSound, Shape, end_of, map_of, origin_of}
use Rattle.dcel_maps.proofs.maps.Soundness.{rev_live}
use Rattle.dcel_plane.specs.covering.Covering.{HasDistinctPoints, dot}
use Rattle.dcel_plane.specs.covering.Places.{Place, orient_at}
use Rattle.dcel_plane.proofs.covering.Inside.{apart_start, weighed}
use Rattle.dcel_plane.proofs.covering.Products.{no_weights, below_times, square_zero, times_below}

abbrev pub dot_in : Spot → Spot → Spot → Term
dot_in a b c = plus (by (minus a.x c.x) (minus b.x c.x)) (by (minus a.y c.y) (minus b.y c.y))

pub dot_swapped : (a b c : Point) → dot a b c ≡ dot b a c
dot_swapped a b c = by_terms (a.x ∷ a.y ∷ b.x ∷ b.y ∷ c.x ∷ c.y ∷ []) (dot_in (spot 0) (spot 1) (spot 2)) (dot_in (spot 1) (spot 0) (spot 2)) refl

-- products with a factor 0
pub none_first : (x g : ℤ) → x ≡ pos 0 → x *ℤ g ≡ pos 0
none_first x g zero = ap (λ z. z *ℤ g) zero ∙ *ℤ_comm (pos 0) g ∙ *ℤ-zero g

pub none_second : (x g : ℤ) → g ≡ pos 0 → x *ℤ g ≡ pos 0
none_second x g zero = ap (λ z. x *ℤ z) zero ∙ *ℤ-zero x

-- two points are one, or their distance is positive
pub long : (a b : Point) → (a.x ≡ b.x → a.y ≡ b.y → ⊥) → pos 0 <ℤ dot a a b
long a b differ =
    by_lt_z (pos 0) (dot a a b) (λ is. is)
    (λ not. absurd
    (let sx = square (a.x -ℤ b.x) in
    let sy = square (a.y -ℤ b.y) in
    let zx = square_zero (a.x -ℤ b.x) (omega (arith, ordered, not, sx, sy)) in
    let zy = square_zero (a.y -ℤ b.y) (omega (arith, ordered, not, sx, sy)) in
    differ (omega (arith, ordered, zx)) (omega (arith, ordered, zy))))

-- so half edges have a length where vertices stand at different points
pub edges_long : (at : ℕ → Point) (s : Shape) → IsSound s → HasDistinctPoints at s → (h : ℕ) → IsLive s h
    → pos 0 <ℤ dot (at (end_of s h)) (at (end_of s h)) (at (origin_of s h))
edges_long at s sound distinct h live =
    long (at (end_of s h)) (at (origin_of s h)) (λ ex ey. sound.two_ends h live (sym (distinct (rev h) h (rev_live (map_of s) h live) live ex ey)))

-- v lies on the line from b to a, strictly between them
pub record IsBetween (b a v : Point) : Type 0 where
  pub on : orient2d_of b a v ≡ pos 0
  pub above : pos 0 <ℤ dot v a b
  pub below : dot v a b <ℤ dot a a b

-- by a triangle on one side
module _ (a b c v : Point) where
  pub first_weight : dot v a b *ℤ orient2d_of a b c ≡ (orient2d_of b c v *ℤ dot a a b) +ℤ (orient2d_of a b v *ℤ dot c a b)
  first_weight =
      by_terms (a.x ∷ a.y ∷ b.x ∷ b.y ∷ c.x ∷ c.y ∷ v.x ∷ v.y ∷ []) (by (dot_in (spot 3) (spot 0) (spot 1)) (orient (spot 0) (spot 1) (spot 2)))
      (plus (by (orient (spot 1) (spot 2) (spot 3)) (dot_in (spot 0) (spot 0) (spot 1))) (by (orient (spot 0) (spot 1) (spot 3)) (dot_in (spot 2) (spot 0) (spot 1)))) refl

  pub second_weight : (dot a a b -ℤ dot v a b) *ℤ orient2d_of a b c ≡ (orient2d_of c a v *ℤ dot a a b) +ℤ (orient2d_of a b v *ℤ (dot a a b -ℤ dot c a b))
  second_weight =
      by_terms (a.x ∷ a.y ∷ b.x ∷ b.y ∷ c.x ∷ c.y ∷ v.x ∷ v.y ∷ [])
      (by (minus (dot_in (spot 0) (spot 0) (spot 1)) (dot_in (spot 3) (spot 0) (spot 1))) (orient (spot 0) (spot 1) (spot 2)))
      (plus (by (orient (spot 2) (spot 0) (spot 3)) (dot_in (spot 0) (spot 0) (spot 1)))
      (by (orient (spot 0) (spot 1) (spot 3)) (minus (dot_in (spot 0) (spot 0) (spot 1)) (dot_in (spot 2) (spot 0) (spot 1))))) refl

  pub between_ends : pos 0 <ℤ dot a a b → pos 0 <ℤ orient2d_of a b c → pos 0 <ℤ orient2d_of b c v → pos 0 <ℤ orient2d_of c a v → orient2d_of a b v ≡ pos 0 → orient2d_of b a v ≡ pos 0
      → IsBetween b a v
  between_ends far turn bc ca on on_too = record {
    on = on_too;
    above =
        by_positive (dot v a b) (orient2d_of a b c) (orient2d_of b c v) (dot a a b) (orient2d_of a b v *ℤ dot c a b) first_weight
        (none_first (orient2d_of a b v) (dot c a b) on) turn bc far;
    below =
        (let p = by_positive (dot a a b -ℤ dot v a b) (orient2d_of a b c) (orient2d_of c a v) (dot a a b) (orient2d_of a b v *ℤ (dot a a b -ℤ dot c a b)) second_weight
        (none_first (orient2d_of a b v) (dot a a b -ℤ dot c a b) on) turn ca far in
        omega (arith, ordered, p));
  }
    where
      by_positive : (d t w l z : ℤ) → d *ℤ t ≡ (w *ℤ l) +ℤ z → z ≡ pos 0 → pos 0 <ℤ t → pos 0 <ℤ w → pos 0 <ℤ l → pos 0 <ℤ d
      by_positive d t w l z is zero ht hw hl =
          by_lt_z (pos 0) d (λ more. more)
          (λ not. absurd (let p = times_positive w l hw hl in let q = times_negative t d (omega (arith, ordered, ht)) not in let c = *ℤ_comm t d in omega (arith, ordered, is, zero, p, q, c)))

-- three points on the line
module _ (b a x y q : Point) (far : pos 0 <ℤ dot a a b) (on_x : orient2d_of b a x ≡ pos 0) (on_y : orient2d_of b a y ≡ pos 0) (on_q : orient2d_of b a q ≡ pos 0) where
  pub by_place : dot a a b *ℤ dot x y q
      ≡ ((dot x a b -ℤ dot q a b) *ℤ (dot y a b -ℤ dot q a b)) +ℤ ((orient2d_of b a x -ℤ orient2d_of b a q) *ℤ (orient2d_of b a y -ℤ orient2d_of b a q))
  by_place =
      by_terms (b.x ∷ b.y ∷ a.x ∷ a.y ∷ x.x ∷ x.y ∷ y.x ∷ y.y ∷ q.x ∷ q.y ∷ []) (by (dot_in (spot 1) (spot 1) (spot 0)) (dot_in (spot 2) (spot 3) (spot 4)))
      (plus (by (minus (dot_in (spot 2) (spot 1) (spot 0)) (dot_in (spot 4) (spot 1) (spot 0))) (minus (dot_in (spot 3) (spot 1) (spot 0)) (dot_in (spot 4) (spot 1) (spot 0))))
      (by (minus (orient (spot 0) (spot 1) (spot 2)) (orient (spot 0) (spot 1) (spot 4))) (minus (orient (spot 0) (spot 1) (spot 3)) (orient (spot 0) (spot 1) (spot 4))))) refl

  pub no_height : (orient2d_of b a x -ℤ orient2d_of b a q) *ℤ (orient2d_of b a y -ℤ orient2d_of b a q) ≡ pos 0
  no_height = none_first (orient2d_of b a x -ℤ orient2d_of b a q) (orient2d_of b a y -ℤ orient2d_of b a q) (omega (arith, ordered, on_x, on_q))

  pub placed : pos 0 ≤ℤ dot x y q → pos 0 ≤ℤ ((dot x a b -ℤ dot q a b) *ℤ (dot y a b -ℤ dot q a b))
  placed apart = let t = times (dot a a b) (dot x y q) (omega (arith, ordered, far)) apart in let z = no_height in let e = by_place in omega (arith, ordered, t, z, e)

  pub apart_by : pos 0 ≤ℤ ((dot x a b -ℤ dot q a b) *ℤ (dot y a b -ℤ dot q a b)) → pos 0 ≤ℤ dot x y q
  apart_by places =
      by_lt_z (dot x y q) (pos 0) (λ less. absurd (let t = times_below (dot a a b) (dot x y q) far less in let z = no_height in let e = by_place in omega (arith, ordered, t, z, e, places)))
      (λ not. not)

pub same_side : (x y : ℤ) → ((pos 0 ≤ℤ x) × (pos 0 ≤ℤ y)) ⊎ ((x ≤ℤ pos 0) × (y ≤ℤ pos 0)) → pos 0 ≤ℤ (x *ℤ y)
same_side x y (inl above) = times x y above.0 above.1
same_side x y (inr below) = both_negative x y below.0 below.1

pub sides : (x y : ℤ) → pos 0 ≤ℤ (x *ℤ y) → ((pos 0 ≤ℤ x) × (pos 0 ≤ℤ y)) ⊎ ((x ≤ℤ pos 0) × (y ≤ℤ pos 0))
sides x y product =
    by_lt_z (pos 0) x
    (λ more. inl (omega (arith, ordered, more), by_lt_z y (pos 0) (λ less. absurd (let t = times_below x y more less in omega (arith, ordered, t, product))) (λ not. not)))
    (λ not. by_lt_z (pos 0) y
    (λ more. inl (by_lt_z x (pos 0) (λ less. absurd (let t = below_times x y less more in omega (arith, ordered, t, product))) (λ nor. nor), omega (arith, ordered, more)))
    (λ nor. inr (not, nor)))

pub dot_start : (a b : Point) → dot b a b ≡ pos 0
dot_start a b = apart_start b a

-- where two points on the line lie equally far along it they are one
pub one_place : (b a x q : Point) → pos 0 <ℤ dot a a b → orient2d_of b a x ≡ pos 0 → orient2d_of b a q ≡ pos 0 → dot x a b ≡ dot q a b → (x.x ≡ q.x) × (x.y ≡ q.y)
one_place b a x q far on_x on_q same =
    let e = by_place b a x x q far on_x on_x on_q in
    let z = no_height b a x x q far on_x on_x on_q in
    let f = none_first (dot x a b -ℤ dot q a b) (dot x a b -ℤ dot q a b) (omega (arith, ordered, same)) in
    let none : dot x x q ≤ℤ pos 0 =
    by_lt_z (pos 0) (dot x x q) (λ more. absurd (let t = times_positive (dot a a b) (dot x x q) far more in omega (arith, ordered, e, z, f, t))) (λ not. not) in
    let sx = square (x.x -ℤ q.x) in
    let sy = square (x.y -ℤ q.y) in
    let zx = square_zero (x.x -ℤ q.x) (omega (arith, ordered, none, sx, sy)) in
    let zy = square_zero (x.y -ℤ q.y) (omega (arith, ordered, none, sx, sy)) in
    (omega (arith, ordered, zx), omega (arith, ordered, zy))

-- the corners of a triangle don't all lie on a line
module _ (a b c e f : Point) (turn : pos 0 <ℤ orient2d_of a b c) (at_a : orient2d_of e f a ≡ pos 0) (at_b : orient2d_of e f b ≡ pos 0) (at_c : orient2d_of e f c ≡ pos 0) where
  -- a place off the line, where there is one
  aside : Place
  aside = record { x = e.x -ℤ (f.y -ℤ e.y); y = e.y +ℤ (f.x -ℤ e.x); w = pos 1; above = omega (arith, ordered) }

  aside-is : orient_at e f aside ≡ ((f.x -ℤ e.x) *ℤ (f.x -ℤ e.x)) +ℤ ((f.y -ℤ e.y) *ℤ (f.y -ℤ e.y))
  unfolding aside
  aside-is =
      by_terms (e.x ∷ e.y ∷ f.x ∷ f.y ∷ [])
      (orient_in (spot 0) (spot 1) (record { x = minus (spot 0).x (minus (spot 1).y (spot 0).y); y = plus (spot 0).y (minus (spot 1).x (spot 0).x); w = num (pos 1) }))
      (plus (by (minus (spot 1).x (spot 0).x) (minus (spot 1).x (spot 0).x)) (by (minus (spot 1).y (spot 0).y) (minus (spot 1).y (spot 0).y))) refl

  no_length : (((f.x -ℤ e.x) *ℤ (f.x -ℤ e.x)) +ℤ ((f.y -ℤ e.y) *ℤ (f.y -ℤ e.y))) ≤ℤ pos 0
  no_length =
      by_lt_z (pos 0) (orient_at e f aside)
      (λ more. absurd
      (no_weights (orient_at e f aside) (orient2d_of a b c) (orient_at b c aside) (orient_at c a aside) (orient_at a b aside) (orient2d_of e f a) (orient2d_of e f b) (orient2d_of e f c)
      (weighed a b c e f aside) turn more at_a at_b at_c))
      (λ not. let e = aside-is in omega (arith, ordered, e, not))

  pub one_point : (e.x ≡ f.x) × (e.y ≡ f.y)
  one_point =
      let n = no_length in
      let sx = square (f.x -ℤ e.x) in
      let sy = square (f.y -ℤ e.y) in
      let zx = square_zero (f.x -ℤ e.x) (omega (arith, ordered, n, sx, sy)) in
      let zy = square_zero (f.y -ℤ e.y) (omega (arith, ordered, n, sx, sy)) in
      (omega (arith, ordered, zx), omega (arith, ordered, zy))
