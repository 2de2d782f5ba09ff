-- Two edges of a convex hull that lead to the right and pass above a place start at one point.
use Rattle.std.proofs.Common.{◌≡◌, [], ◌∷◌, ℤ, pos, ◌+ℤ◌, ◌-ℤ◌, ◌*ℤ◌, ◌<ℤ◌, ◌≤ℤ◌, neg_ℤ, refl, sym, ap, ◌∙◌, arith}
use Rattle.std.proofs.lemmas.Int.{by_lt_z}
use Rattle.std.proofs.Math.IntN.{*ℤ_comm, *ℤ-zero}
use Rattle.dcel_predicates.specs.Determinants.{orient2d_of}
use Rattle.dcel_predicates.specs.declared.point.Point.{Point}
use Rattle.dcel_predicates.proofs.Integers.{mul_neg}
use Rattle.dcel_predicates.proofs.Ring.{by_terms, minus, num, plus, times as by}
use Rattle.dcel_predicates.proofs.Signs.{ordered, square, times_negative, times_positive}
use Rattle.dcel_predicates.proofs.Terms.{orient, spot}
use Rattle.dcel_plane.specs.covering.Covering.{dot}
use Rattle.dcel_plane.specs.covering.Places.{Place}
use Rattle.dcel_plane.proofs.covering.Columns.{IsHit, apart_columns}
use Rattle.dcel_plane.proofs.covering.Products.{below_times, factor_not_below}

module _ (a b c d : Point) where
  lever : ((b.x -ℤ c.x) *ℤ orient2d_of c d a) +ℤ ((c.x -ℤ a.x) *ℤ orient2d_of c d b) ≡ pos 0 -ℤ ((d.x -ℤ c.x) *ℤ orient2d_of a b c)
  lever =
      by_terms (a.x ∷ a.y ∷ b.x ∷ b.y ∷ c.x ∷ c.y ∷ d.x ∷ d.y ∷ [])
      (plus (by (minus (spot 1).x (spot 2).x) (orient (spot 2) (spot 3) (spot 0))) (by (minus (spot 2).x (spot 0).x) (orient (spot 2) (spot 3) (spot 1))))
      (minus (num (pos 0)) (by (minus (spot 3).x (spot 2).x) (orient (spot 0) (spot 1) (spot 2)))) refl

  -- where neither edge has an end of the other on its left, c is on the line from a to b
  on_line : a.x ≤ℤ c.x → pos 0 <ℤ (b.x -ℤ c.x) → pos 0 <ℤ (d.x -ℤ c.x) → orient2d_of a b c ≤ℤ pos 0 → orient2d_of c d a ≤ℤ pos 0 → orient2d_of c d b ≤ℤ pos 0
      → orient2d_of a b c ≡ pos 0
  on_line left before after at_c at_a at_b =
      let k = times_negative (b.x -ℤ c.x) (orient2d_of c d a) (omega (arith, ordered, before)) at_a in
      let l = times_negative (c.x -ℤ a.x) (orient2d_of c d b) (omega (arith, ordered, left)) at_b in
      let e = lever in
      let n = mul_neg (d.x -ℤ c.x) (orient2d_of a b c) in
      let t = factor_not_below (d.x -ℤ c.x) (orient2d_of a b c) after
      (compare ((b.x -ℤ c.x) *ℤ orient2d_of c d a) ((c.x -ℤ a.x) *ℤ orient2d_of c d b) ((d.x -ℤ c.x) *ℤ orient2d_of a b c) e k l) in
      omega (arith, ordered, t, at_c)
    where
      compare : (x y z : ℤ) → x +ℤ y ≡ pos 0 -ℤ z → x ≤ℤ pos 0 → y ≤ℤ pos 0 → pos 0 ≤ℤ z
      compare x y z is k l = omega (arith, ordered, is, k, l)

module _ (a b c : Point) (on : orient2d_of a b c ≡ pos 0) where
  heights : ((b.x -ℤ a.x) *ℤ (b.x -ℤ a.x)) *ℤ ((a.y -ℤ c.y) *ℤ (b.y -ℤ c.y))
      ≡ (orient2d_of a b c *ℤ (orient2d_of a b c +ℤ ((b.y -ℤ a.y) *ℤ (c.x -ℤ a.x)) +ℤ ((b.y -ℤ a.y) *ℤ (c.x -ℤ b.x)))) +ℤ (((b.y -ℤ a.y) *ℤ (b.y -ℤ a.y)) *ℤ ((c.x -ℤ a.x) *ℤ (c.x -ℤ b.x)))
  heights =
      by_terms (a.x ∷ a.y ∷ b.x ∷ b.y ∷ c.x ∷ c.y ∷ [])
      (by (by (minus (spot 1).x (spot 0).x) (minus (spot 1).x (spot 0).x)) (by (minus (spot 0).y (spot 2).y) (minus (spot 1).y (spot 2).y)))
      (plus (by (orient (spot 0) (spot 1) (spot 2)) (plus (plus (orient (spot 0) (spot 1) (spot 2)) (by (minus (spot 1).y (spot 0).y) (minus (spot 2).x (spot 0).x))) (by (minus (spot 1).y (spot 0).y) (minus (spot 2).x (spot 1).x))))
      (by (by (minus (spot 1).y (spot 0).y) (minus (spot 1).y (spot 0).y)) (by (minus (spot 2).x (spot 0).x) (minus (spot 2).x (spot 1).x)))) refl

  -- c between a and b on their line
  is_between : a.x <ℤ c.x → c.x <ℤ b.x → dot a b c <ℤ pos 0
  is_between after before =
      let first = below_times (a.x -ℤ c.x) (b.x -ℤ c.x) (omega (arith, ordered, after)) (omega (arith, ordered, before)) in
      let k = orient2d_of a b c +ℤ ((b.y -ℤ a.y) *ℤ (c.x -ℤ a.x)) +ℤ ((b.y -ℤ a.y) *ℤ (c.x -ℤ b.x)) in
      let zero = ap (λ z. z *ℤ k) on ∙ *ℤ_comm (pos 0) k ∙ *ℤ-zero k in
      let apart = below_times (c.x -ℤ b.x) (c.x -ℤ a.x) (omega (arith, ordered, before)) (omega (arith, ordered, after)) in
      let other = times_negative ((b.y -ℤ a.y) *ℤ (b.y -ℤ a.y)) ((c.x -ℤ a.x) *ℤ (c.x -ℤ b.x)) (square (b.y -ℤ a.y)) (omega (arith, ordered, apart, *ℤ_comm (c.x -ℤ a.x) (c.x -ℤ b.x))) in
      let width = times_positive (b.x -ℤ a.x) (b.x -ℤ a.x) (omega (arith, ordered, after, before)) (omega (arith, ordered, after, before)) in
      let second = not_above ((b.x -ℤ a.x) *ℤ (b.x -ℤ a.x)) ((a.y -ℤ c.y) *ℤ (b.y -ℤ c.y)) (orient2d_of a b c *ℤ k) (((b.y -ℤ a.y) *ℤ (b.y -ℤ a.y)) *ℤ ((c.x -ℤ a.x) *ℤ (c.x -ℤ b.x))) heights zero other width in
      omega (arith, ordered, first, second)
    where
      not_above : (u y k l : ℤ) → u *ℤ y ≡ k +ℤ l → k ≡ pos 0 → l ≤ℤ pos 0 → pos 0 <ℤ u → y ≤ℤ pos 0
      not_above u y k l is zero less more = by_lt_z (pos 0) y (λ above. absurd (let t = times_positive u y more above in omega (arith, ordered, is, zero, less, t))) (λ not. not)

  -- c in the column of a
  in_column : pos 0 <ℤ (b.x -ℤ a.x) → a.x ≡ c.x → a.y ≡ c.y
  in_column wide same =
      let zero = ap (λ z. (b.y -ℤ a.y) *ℤ z) (none_apart c.x a.x (sym same)) ∙ *ℤ-zero (b.y -ℤ a.y) in
      let product : (b.x -ℤ a.x) *ℤ (c.y -ℤ a.y) ≡ pos 0 = parts ((b.x -ℤ a.x) *ℤ (c.y -ℤ a.y)) ((b.y -ℤ a.y) *ℤ (c.x -ℤ a.x)) on zero in
      let up = factor_not_below (b.x -ℤ a.x) (c.y -ℤ a.y) wide (omega (arith, ordered, product)) in
      let n = mul_neg (b.x -ℤ a.x) (c.y -ℤ a.y) in
      let down = factor_not_below (b.x -ℤ a.x) (neg_ℤ (c.y -ℤ a.y)) wide (omega (arith, ordered, product, n)) in
      omega (arith, ordered, up, down)
    where
      none_apart : (x y : ℤ) → x ≡ y → x -ℤ y ≡ pos 0
      none_apart x y is = omega (arith, ordered, is)

      parts : (x y : ℤ) → x -ℤ y ≡ pos 0 → y ≡ pos 0 → x ≡ pos 0
      parts x y is zero = omega (arith, ordered, is, zero)

-- an edge of the hull: no end of the other one on its left, nor between its ends
pub record Bounds (a b c d : Point) : Type 0 where
  pub start : orient2d_of a b c ≤ℤ pos 0
  pub end : orient2d_of a b d ≤ℤ pos 0
  pub between : orient2d_of a b c ≡ pos 0 → pos 0 ≤ℤ dot a b c

module _ (a b c d : Point) (p : Place) (first : IsHit a b p) (second : IsHit c d p) (bounds : Bounds a b c d) (other : Bounds c d a b) where
  reaches : pos 0 <ℤ (b.x -ℤ c.x)
  reaches = apart_columns p.w c.x b.x p.above (let s = second.starts in let e = first.ends in omega (arith, ordered, s, e))

  long : pos 0 <ℤ (d.x -ℤ c.x)
  long = apart_columns p.w c.x d.x p.above (let s = second.starts in let e = second.ends in omega (arith, ordered, s, e))

  wide : pos 0 <ℤ (b.x -ℤ a.x)
  wide = apart_columns p.w a.x b.x p.above (let s = first.starts in let e = first.ends in omega (arith, ordered, s, e))

  not_after : a.x <ℤ c.x → ⊥
  not_after after =
      let on = on_line a b c d (omega (arith, ordered, after)) reaches long bounds.start other.start other.end in
      let n = bounds.between on in
      let i = is_between a b c on after (let r = reaches in omega (arith, ordered, r)) in
      omega (arith, ordered, n, i)

  same_height : a.x ≡ c.x → a.y ≡ c.y
  same_height same =
      in_column a b c (on_line a b c d (omega (arith, ordered, same)) reaches long bounds.start other.start other.end) wide same

pub one_start : (a b c d : Point) (p : Place) → IsHit a b p → IsHit c d p → Bounds a b c d → Bounds c d a b → (a.x ≡ c.x) × (a.y ≡ c.y)
one_start a b c d p first second bounds other =
    let same : a.x ≡ c.x =
    by_lt_z a.x c.x (λ less. absurd (not_after a b c d p first second bounds other less))
    (λ not. by_lt_z c.x a.x (λ less. absurd (not_after c d a b p second first other bounds less)) (λ nor. omega (arith, ordered, not, nor))) in
    (same, same_height a b c d p first second bounds other same)
