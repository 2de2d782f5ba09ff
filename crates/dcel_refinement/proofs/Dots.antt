-- Dot products in the machine's numbers, and what comes of them times numbers of 16 bits.
use Rattle.std.proofs.Common.{◌≡◌, ℕ, ◌^◌, ◌≤◌, ◌<◌, ℤ, ◌+ℤ◌, ◌-ℤ◌, ◌*ℤ◌, pos, to_z, unsigned_abs, FitsSigned, arith}
use Rattle.std.specs.Int.{w128}
use Rattle.std.proofs.lemmas.Int.{to_z_pos}
use Rattle.dcel_predicates.specs.declared.point.Point.{Point}
use Rattle.dcel_predicates.proofs.Integers.{product_within, sum_within}
use Rattle.dcel_predicates.proofs.Machine.{fits_128, held_128, in_128, wide, x_wide, x_within, y_wide, y_within}
use Rattle.dcel_plane.specs.covering.Covering.{dot}

module _ (a b p : Point) where
  x_product_within : unsigned_abs ((a.x -ℤ p.x) *ℤ (b.x -ℤ p.x)) ≤ 2 ^ 108
  x_product_within = product_within (a.x -ℤ p.x) (b.x -ℤ p.x) (2 ^ 54) (2 ^ 54) (x_within a p) (x_within b p)

  y_product_within : unsigned_abs ((a.y -ℤ p.y) *ℤ (b.y -ℤ p.y)) ≤ 2 ^ 108
  y_product_within = product_within (a.y -ℤ p.y) (b.y -ℤ p.y) (2 ^ 54) (2 ^ 54) (y_within a p) (y_within b p)

  pub x_product_fits : FitsSigned w128 (wide a.x p.x *ℤ wide b.x p.x)
  x_product_fits = rw (x_wide a p, x_wide b p) (fits_128 _ (let h = x_product_within in omega arith))

  pub y_product_fits : FitsSigned w128 (wide a.y p.y *ℤ wide b.y p.y)
  y_product_fits = rw (y_wide a p, y_wide b p) (fits_128 _ (let h = y_product_within in omega arith))

  x_product_is : in_128 (wide a.x p.x *ℤ wide b.x p.x) ≡ (a.x -ℤ p.x) *ℤ (b.x -ℤ p.x)
  x_product_is = rw (x_wide a p, x_wide b p) (held_128 _ (let h = x_product_within in omega arith))

  y_product_is : in_128 (wide a.y p.y *ℤ wide b.y p.y) ≡ (a.y -ℤ p.y) *ℤ (b.y -ℤ p.y)
  y_product_is = rw (y_wide a p, y_wide b p) (held_128 _ (let h = y_product_within in omega arith))

  pub dot_within : unsigned_abs (dot a b p) ≤ 2 ^ 109
  dot_within = sum_within ((a.x -ℤ p.x) *ℤ (b.x -ℤ p.x)) ((a.y -ℤ p.y) *ℤ (b.y -ℤ p.y)) (2 ^ 108) (2 ^ 108) x_product_within y_product_within

  pub sum_fits : FitsSigned w128 (in_128 (wide a.x p.x *ℤ wide b.x p.x) +ℤ in_128 (wide a.y p.y *ℤ wide b.y p.y))
  sum_fits = rw (x_product_is, y_product_is) (fits_128 _ (let h = dot_within in omega arith))

  pub dot_is : in_128 (in_128 (wide a.x p.x *ℤ wide b.x p.x) +ℤ in_128 (wide a.y p.y *ℤ wide b.y p.y)) ≡ dot a b p
  dot_is = rw (x_product_is, y_product_is) (held_128 _ (let h = dot_within in omega arith))

-- a number of 16 bits times one of 110
module _ (n : ℕ) (z : ℤ) (small : n < 2 ^ 16) (within : unsigned_abs z ≤ 2 ^ 109) where
  pub weighted_within : unsigned_abs (pos n *ℤ z) ≤ 2 ^ 125
  weighted_within = product_within (pos n) z (2 ^ 16) (2 ^ 109) (omega (arith, small)) within

  pub weighted_fits : FitsSigned w128 (to_z w128 n *ℤ in_128 z)
  weighted_fits = rw (to_z_pos w128 n (omega (arith, small)), held_128 z (omega (arith, within))) (fits_128 _ (let h = weighted_within in omega arith))

  pub weighted_is : in_128 (to_z w128 n *ℤ in_128 z) ≡ pos n *ℤ z
  weighted_is = rw (to_z_pos w128 n (omega (arith, small)), held_128 z (omega (arith, within))) (held_128 _ (let h = weighted_within in omega arith))
