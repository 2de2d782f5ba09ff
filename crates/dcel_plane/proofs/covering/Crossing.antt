-- The crossing identity: how the power of a point changes from the circle of a triangle to that of the triangle beyond one of its sides.
use Rattle.std.proofs.Common.{◌≡◌, [], ◌∷◌, ◌-ℤ◌, ◌*ℤ◌, refl}
use Rattle.dcel_predicates.specs.Determinants.{orient2d_of, incircle_of}
use Rattle.dcel_predicates.specs.declared.point.Point.{Point}
use Rattle.dcel_predicates.proofs.Ring.{by_terms, minus, times as by}
use Rattle.dcel_predicates.proofs.Terms.{incircle, incircle_in, orient, orient_in, place, spot}
use Rattle.dcel_plane.specs.covering.Places.{Place, incircle_at, orient_at}

-- the triangles (a, b, c) and (b, a, d), and any fifth point
pub crossing : (a b c d v : Point) → incircle_of b a d v *ℤ orient2d_of a b c ≡ (incircle_of a b c v *ℤ orient2d_of b a d) -ℤ (incircle_of a b c d *ℤ orient2d_of b a v)
crossing a b c d v =
    by_terms (a.x ∷ a.y ∷ b.x ∷ b.y ∷ c.x ∷ c.y ∷ d.x ∷ d.y ∷ v.x ∷ v.y ∷ [])
    (by (incircle (spot 1) (spot 0) (spot 3) (spot 4)) (orient (spot 0) (spot 1) (spot 2)))
    (minus (by (incircle (spot 0) (spot 1) (spot 2) (spot 4)) (orient (spot 1) (spot 0) (spot 3))) (by (incircle (spot 0) (spot 1) (spot 2) (spot 3)) (orient (spot 1) (spot 0) (spot 4)))) refl

-- and any place
pub crossing_at : (a b c d : Point) (p : Place) → incircle_at b a d p *ℤ orient2d_of a b c
    ≡ (incircle_at a b c p *ℤ orient2d_of b a d) -ℤ ((p.w *ℤ p.w) *ℤ (incircle_of a b c d *ℤ orient_at b a p))
crossing_at a b c d p =
    by_terms (a.x ∷ a.y ∷ b.x ∷ b.y ∷ c.x ∷ c.y ∷ d.x ∷ d.y ∷ p.x ∷ p.y ∷ p.w ∷ [])
    (by (incircle_in (spot 1) (spot 0) (spot 3) (place 8)) (orient (spot 0) (spot 1) (spot 2)))
    (minus (by (incircle_in (spot 0) (spot 1) (spot 2) (place 8)) (orient (spot 1) (spot 0) (spot 3)))
    (by (by (place 8).w (place 8).w) (by (incircle (spot 0) (spot 1) (spot 2) (spot 3)) (orient_in (spot 1) (spot 0) (place 8))))) refl
