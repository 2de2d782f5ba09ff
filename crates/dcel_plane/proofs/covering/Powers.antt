-- Fractions compared, and sides of triangles by the part of the circle beyond them.
use Rattle.std.proofs.Common.{◌≡◌, [], ◌∷◌, ℤ, pos, ◌+ℤ◌, ◌-ℤ◌, ◌*ℤ◌, ◌<ℤ◌, ◌≤ℤ◌, refl, arith}
use Rattle.dcel_predicates.specs.Determinants.{orient2d_of}
use Rattle.dcel_predicates.specs.declared.point.Point.{Point}
use Rattle.dcel_predicates.proofs.Ring.{by_terms, var, plus, minus, times as by}
use Rattle.dcel_predicates.proofs.Signs.{factor_positive, ordered, times, times_positive}
use Rattle.dcel_plane.proofs.covering.Caps.{InCap}
use Rattle.dcel_plane.proofs.covering.Products.{factor_not_below}

module _ (n d n' d' n'' d'' : ℤ) (hd : pos 0 <ℤ d) (hd' : pos 0 <ℤ d') (hd'' : pos 0 <ℤ d'') where
  between : d' *ℤ ((n'' *ℤ d) -ℤ (n *ℤ d'')) ≡ (d'' *ℤ ((n' *ℤ d) -ℤ (n *ℤ d'))) +ℤ (d *ℤ ((n'' *ℤ d') -ℤ (n' *ℤ d'')))
  between =
      by_terms (n ∷ d ∷ n' ∷ d' ∷ n'' ∷ d'' ∷ []) (by (var 3) (minus (by (var 4) (var 1)) (by (var 0) (var 5))))
      (plus (by (var 5) (minus (by (var 2) (var 1)) (by (var 0) (var 3)))) (by (var 1) (minus (by (var 4) (var 3)) (by (var 2) (var 5))))) refl

  -- the fractions n / d ≤ n' / d' ≤ n'' / d''
  pub most : (n *ℤ d') ≤ℤ (n' *ℤ d) → (n' *ℤ d'') ≤ℤ (n'' *ℤ d') → (n *ℤ d'') ≤ℤ (n'' *ℤ d)
  most first second =
      let a = times d'' ((n' *ℤ d) -ℤ (n *ℤ d')) (omega (arith, ordered)) (omega (arith, ordered)) in
      let b = times d ((n'' *ℤ d') -ℤ (n' *ℤ d'')) (omega (arith, ordered)) (omega (arith, ordered)) in
      let c = factor_not_below d' ((n'' *ℤ d) -ℤ (n *ℤ d'')) hd' (omega (arith, ordered, between, a, b)) in
      omega (arith, ordered, c)

  pub less_first : (n *ℤ d') <ℤ (n' *ℤ d) → (n' *ℤ d'') ≤ℤ (n'' *ℤ d') → (n *ℤ d'') <ℤ (n'' *ℤ d)
  less_first first second =
      let a = times_positive d'' ((n' *ℤ d) -ℤ (n *ℤ d')) hd'' (omega (arith, ordered)) in
      let b = times d ((n'' *ℤ d') -ℤ (n' *ℤ d'')) (omega (arith, ordered)) (omega (arith, ordered)) in
      let c = factor_positive d' ((n'' *ℤ d) -ℤ (n *ℤ d'')) hd' (omega (arith, ordered, between, a, b)) in
      omega (arith, ordered, c)

  pub less_second : (n *ℤ d') ≤ℤ (n' *ℤ d) → (n' *ℤ d'') <ℤ (n'' *ℤ d') → (n *ℤ d'') <ℤ (n'' *ℤ d)
  less_second first second =
      let a = times d'' ((n' *ℤ d) -ℤ (n *ℤ d')) (omega (arith, ordered)) (omega (arith, ordered)) in
      let b = times_positive d ((n'' *ℤ d') -ℤ (n' *ℤ d'')) hd (omega (arith, ordered)) in
      let c = factor_positive d' ((n'' *ℤ d) -ℤ (n *ℤ d'')) hd' (omega (arith, ordered, between, a, b)) in
      omega (arith, ordered, c)

-- a side of a triangle, from a to b, with the corner c opposite it
pub record Side : Type 0 where
  pub a : Point
  pub b : Point
  pub c : Point

abbrev pub side : Point → Point → Point → Side
side a b c = record { a = a; b = b; c = c }

abbrev pub area : Side → ℤ
area s = orient2d_of s.a s.b s.c

-- the part of the circle beyond the one is smaller than beyond the other
pub record IsSmaller (s t : Side) : Type 0 where
  pub all : (w : Point) → InCap t.a t.b t.c w → InCap s.a s.b s.c w
  pub one : Point
  pub in_first : InCap s.a s.b s.c one
  pub not_second : InCap t.a t.b t.c one → ⊥
