-- A point that lies left of the four sides of two triangles at an edge lies left of each line that no corner lies right of.
use Rattle.std.proofs.Common.{◌≡◌, [], ◌∷◌, ℤ, pos, ◌+ℤ◌, ◌*ℤ◌, ◌<ℤ◌, ◌≤ℤ◌, neg_ℤ, refl, ap, ◌∙◌, arith}
use Rattle.std.proofs.lemmas.Int.{by_lt_z}
use Rattle.std.proofs.Math.IntN.{*ℤ-zero}
use Rattle.dcel_predicates.specs.Determinants.{orient2d_of}
use Rattle.dcel_predicates.specs.declared.point.Point.{Point}
use Rattle.dcel_predicates.proofs.Points.{orient2d-first_swapped}
use Rattle.dcel_predicates.proofs.Ring.{by_terms, plus, times as by}
use Rattle.dcel_predicates.proofs.Signs.{negative_times, ordered, times, times_positive}
use Rattle.dcel_predicates.proofs.Terms.{orient, spot}
use Rattle.dcel_plane.proofs.covering.Products.{below_times, zero_factor}

pub both_none : (o t k l w x y z : ℤ) → o *ℤ t ≡ ((k *ℤ x) +ℤ (l *ℤ y)) +ℤ (w *ℤ z) → pos 0 <ℤ t → o ≤ℤ pos 0 → pos 0 <ℤ k → pos 0 <ℤ l → pos 0 ≤ℤ w
    → pos 0 ≤ℤ x → pos 0 ≤ℤ y → pos 0 ≤ℤ z → (x ≡ pos 0) × (y ≡ pos 0)
both_none o t k l w x y z is ht ho hk hl hw hx hy hz =
    let p = negative_times o t ho (omega (arith, ordered, ht)) in
    let a = times k x (omega (arith, ordered, hk)) hx in
    let b = times l y (omega (arith, ordered, hl)) hy in
    let c = times w z hw hz in
    (zero_factor k x hk hx (omega (arith, ordered, is, p, a, b, c)), zero_factor l y hl hy (omega (arith, ordered, is, p, a, b, c)))

pub only_third : (d k l w x y z : ℤ) → d ≡ ((k *ℤ x) +ℤ (l *ℤ y)) +ℤ (w *ℤ z) → x ≡ pos 0 → y ≡ pos 0 → d ≡ w *ℤ z
only_third d k l w x y z is ex ey =
    let a = ap (λ i. k *ℤ i) ex ∙ *ℤ-zero k in
    let b = ap (λ i. l *ℤ i) ey ∙ *ℤ-zero l in
    omega (arith, ordered, is, a, b)

-- on which side of the line from e to f a point lies, by the corners of a triangle
pub weighed_point : (a b c e f p : Point) → orient2d_of e f p *ℤ orient2d_of a b c
    ≡ ((orient2d_of b c p *ℤ orient2d_of e f a) +ℤ (orient2d_of c a p *ℤ orient2d_of e f b)) +ℤ (orient2d_of a b p *ℤ orient2d_of e f c)
weighed_point a b c e f p =
    by_terms (a.x ∷ a.y ∷ b.x ∷ b.y ∷ c.x ∷ c.y ∷ e.x ∷ e.y ∷ f.x ∷ f.y ∷ p.x ∷ p.y ∷ [])
    (by (orient (spot 3) (spot 4) (spot 5)) (orient (spot 0) (spot 1) (spot 2)))
    (plus (plus (by (orient (spot 1) (spot 2) (spot 5)) (orient (spot 3) (spot 4) (spot 0)))
    (by (orient (spot 2) (spot 0) (spot 5)) (orient (spot 3) (spot 4) (spot 1))))
    (by (orient (spot 0) (spot 1) (spot 5)) (orient (spot 3) (spot 4) (spot 2)))) refl

module _ (a b c d e f g v : Point) (near : pos 0 <ℤ orient2d_of a b c) (far : pos 0 <ℤ orient2d_of b a d)
    (at_a : pos 0 ≤ℤ orient2d_of e f a) (at_b : pos 0 ≤ℤ orient2d_of e f b) (at_c : pos 0 ≤ℤ orient2d_of e f c) (at_d : pos 0 ≤ℤ orient2d_of e f d)
    (off : pos 0 <ℤ orient2d_of e f g)
    (bc : pos 0 <ℤ orient2d_of b c v) (ca : pos 0 <ℤ orient2d_of c a v) (ad : pos 0 <ℤ orient2d_of a d v) (db : pos 0 <ℤ orient2d_of d b v) where
  not_both : orient2d_of e f a ≡ pos 0 → orient2d_of e f b ≡ pos 0 → ⊥
  not_both on_a on_b =
      let o = orient2d-first_swapped a b d in
      let beyond = only_third (orient2d_of e f d *ℤ orient2d_of a b c) (orient2d_of b c d) (orient2d_of c a d) (orient2d_of a b d) (orient2d_of e f a) (orient2d_of e f b) (orient2d_of e f c)
      (weighed_point a b c e f d) on_a on_b in
      let some = times (orient2d_of e f d) (orient2d_of a b c) at_d (omega (arith, ordered, near)) in
      let on_c : orient2d_of e f c ≡ pos 0 = back (orient2d_of a b d) (orient2d_of e f c) (orient2d_of b a d) o far at_c (omega (arith, ordered, some, beyond)) in
      let whole = only_third (orient2d_of e f g *ℤ orient2d_of a b c) (orient2d_of b c g) (orient2d_of c a g) (orient2d_of a b g) (orient2d_of e f a) (orient2d_of e f b) (orient2d_of e f c)
      (weighed_point a b c e f g) on_a on_b in
      let none = ap (λ i. orient2d_of a b g *ℤ i) on_c ∙ *ℤ-zero (orient2d_of a b g) in
      let more = times_positive (orient2d_of e f g) (orient2d_of a b c) off near in
      omega (arith, ordered, whole, none, more)
    where
      back : (w z w' : ℤ) → w' ≡ neg_ℤ w → pos 0 <ℤ w' → pos 0 ≤ℤ z → pos 0 ≤ℤ (w *ℤ z) → z ≡ pos 0
      back w z w' is less hz product =
          by_lt_z (pos 0) z
          (λ more. absurd (let b = below_times w z (omega (arith, ordered, is, less)) more in omega (arith, ordered, b, product))) (λ not. omega (arith, ordered, not, hz))

  pub quad_left : pos 0 <ℤ orient2d_of e f v
  quad_left =
      by_lt_z (pos 0) (orient2d_of e f v) (λ is. is)
      (λ not. absurd
      (by_lt_z (orient2d_of a b v) (pos 0)
      (λ less.
      let o = orient2d-first_swapped a b v in
      let zeros = both_none (orient2d_of e f v) (orient2d_of b a d) (orient2d_of a d v) (orient2d_of d b v) (orient2d_of b a v) (orient2d_of e f b) (orient2d_of e f a) (orient2d_of e f d)
      (weighed_point b a d e f v) far not ad db (omega (arith, ordered, o, less)) at_b at_a at_d in
      not_both zeros.1 zeros.0)
      (λ more.
      let zeros = both_none (orient2d_of e f v) (orient2d_of a b c) (orient2d_of b c v) (orient2d_of c a v) (orient2d_of a b v) (orient2d_of e f a) (orient2d_of e f b) (orient2d_of e f c)
      (weighed_point a b c e f v) near not bc ca more at_a at_b at_c in
      not_both zeros.0 zeros.1)))
