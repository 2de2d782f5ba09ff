-- Places of the plane, whose coordinates may be fractions: no gap is left between them where triangles could overlap unseen.
use Rattle.std.specs.Prelude.{ℤ, pos, ◌+ℤ◌, ◌-ℤ◌, ◌*ℤ◌, ◌<ℤ◌, ◌≤ℤ◌}
use Rattle.dcel_predicates.specs.declared.point.Point.{Point}

-- the point (x / w, y / w)
pub record Place : Type 0 where
  pub x : ℤ
  pub y : ℤ
  pub w : ℤ
  pub above : pos 0 <ℤ w

-- w times the determinant of a, b and the place: positive where it lies on the left of the line from a to b
abbrev pub orient_at : Point → Point → Place → ℤ
orient_at a b p = ((b.x -ℤ a.x) *ℤ (p.y -ℤ (p.w *ℤ a.y))) -ℤ ((b.y -ℤ a.y) *ℤ (p.x -ℤ (p.w *ℤ a.x)))

-- the place lies inside the triangle, which goes round counterclockwise
abbrev pub IsStrictlyIn : Point → Point → Point → Place → Type 0
IsStrictlyIn a b c p = (pos 0 <ℤ orient_at a b p) × (pos 0 <ℤ orient_at b c p) × (pos 0 <ℤ orient_at c a p)

-- or on its border
abbrev pub IsIn : Point → Point → Point → Place → Type 0
IsIn a b c p = (pos 0 ≤ℤ orient_at a b p) × (pos 0 ≤ℤ orient_at b c p) × (pos 0 ≤ℤ orient_at c a p)

-- no place lies inside both triangles
abbrev pub AreDisjoint : Point → Point → Point → Point → Point → Point → Type 0
AreDisjoint a b c x y z = (p : Place) → IsStrictlyIn a b c p → IsStrictlyIn x y z p → ⊥

-- the square of the distance from p to the place, times w * w
abbrev pub squared_distance_at : Point → Place → ℤ
squared_distance_at a p = (((p.w *ℤ a.x) -ℤ p.x) *ℤ ((p.w *ℤ a.x) -ℤ p.x)) +ℤ (((p.w *ℤ a.y) -ℤ p.y) *ℤ ((p.w *ℤ a.y) -ℤ p.y))

-- the determinant of the circle and the place, times w * w * w
abbrev pub incircle_at : Point → Point → Point → Place → ℤ
incircle_at a b c p = (squared_distance_at a p *ℤ orient_at b c p) +ℤ (squared_distance_at b p *ℤ orient_at c a p) +ℤ (squared_distance_at c p *ℤ orient_at a b p)
