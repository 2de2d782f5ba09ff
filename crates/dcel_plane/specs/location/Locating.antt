-- Walks towards a point p, from triangle to triangle or along a line, and where p lies.
use Rattle.std.specs.Prelude.{◌≡◌, ◌≢◌, ◌⊎◌, ℕ, ◌<◌, List, [], ◌∷◌, ℤ, pos, ◌<ℤ◌}
use Rattle.dcel_fixed.specs.HalfEdges.{rev}
use Rattle.dcel_predicates.specs.declared.point.Point.{Point}
use Rattle.dcel_predicates.specs.Determinants.{orient2d_of}
use Rattle.dcel_maps.specs.Conditions.{IsLineEnd}
use Rattle.dcel_maps.specs.Shapes.{IsLive, Shape, end_of, face_of, origin_of}
use Rattle.dcel_plane.specs.Plane.{IsLeftOf, LiesAcross, LiesInFace}
use Rattle.dcel_plane.specs.hull.Straight.{dot_of_steps}
use Rattle.dcel_plane.specs.covering.Covering.{dot}

-- `orient2d` of the ends of the half edge h and the point: positive where it lies on the left
abbrev pub orient2d_along : (ℕ → Point) → Shape → ℕ → Point → ℤ
orient2d_along at s h p = orient2d_of (at (origin_of s h)) (at (end_of s h)) p

-- the half edge h of an inner face has the point strictly on its right
pub record HasBeyond (at : ℕ → Point) (s : Shape) (p : Point) (h : ℕ) : Type 0 where
  pub live : IsLive s h
  pub inner : 0 < face_of s h
  pub right : orient2d_along at s h p <ℤ pos 0

-- a walk from the face g to the face f has crossed the half edges of the list, the last one first: a visibility walk of O. Devillers, S. Pion and
-- M. Teillaud ("Walking in a triangulation", 2001)
abbrev pub Walks : (ℕ → Point) → Shape → Point → ℕ → List ℕ → ℕ → Type 0
Walks at s p g [] f = g ≡ f
Walks at s p g (h ∷ rest) f = HasBeyond at s p h × (face_of s (rev h) ≡ f) × Walks at s p g rest (face_of s h)

-- the point has the coordinates of the vertex v
abbrev pub StandsAt : (ℕ → Point) → Point → ℕ → Type 0
StandsAt at p v = ((at v).x ≡ p.x) × ((at v).y ≡ p.y)

-- the point lies strictly between the ends of the half edge h
pub record LiesOn (at : ℕ → Point) (s : Shape) (p : Point) (h : ℕ) : Type 0 where
  pub on : orient2d_along at s h p ≡ pos 0
  pub between : dot (at (origin_of s h)) (at (end_of s h)) p <ℤ pos 0

-- the point lies strictly between the ends of a half edge of the face f, and on the left of its other half edges
pub record HasEdge (at : ℕ → Point) (s : Shape) (p : Point) (f : ℕ) : Type 0 where
  pub side : ℕ
  pub live : IsLive s side
  pub face : face_of s side ≡ f
  pub lies : LiesOn at s p side
  pub across : LiesAcross at s side p

-- the point stands at a corner of the face f
pub record HasCorner (at : ℕ → Point) (s : Shape) (p : Point) (f : ℕ) : Type 0 where
  pub corner : ℕ
  pub live : IsLive s corner
  pub face : face_of s corner ≡ f
  pub stands : StandsAt at p (origin_of s corner)

-- the point lies on the line of the half edge h, strictly beyond its end
pub record LiesBeyond (at : ℕ → Point) (s : Shape) (p : Point) (h : ℕ) : Type 0 where
  pub on : orient2d_along at s h p ≡ pos 0
  pub past : pos 0 <ℤ dot_of_steps (at (origin_of s h)) (at (end_of s h)) p

-- a walk along a line from the half edge g to the half edge h, without turning back: the half edges before h, the last one first
abbrev pub Passes : Shape → ℕ → List ℕ → ℕ → Type 0
Passes s g [] h = g ≡ h
Passes s g (k ∷ rest) h = IsLive s k × (origin_of s h ≡ end_of s k) × (h ≢ rev k) × Passes s g rest k

-- a vertex stands at the point, or the point lies strictly between the ends of an edge, or beyond one of the line's ends
abbrev pub HasPlace : (ℕ → Point) → Shape → Point → Type 0
HasPlace at s p =
    ((k : ℕ) × IsLive s k × StandsAt at p (origin_of s k))
    ⊎ (((k : ℕ) × IsLive s k × LiesOn at s p k) ⊎ ((k : ℕ) × IsLive s k × IsLineEnd s (end_of s k) × LiesBeyond at s p k))

-- the point lies in an inner triangle, in one of three ways, or on the left of a half edge of the outer face
abbrev pub HasSpot : (ℕ → Point) → Shape → Point → Type 0
HasSpot at s p =
    ((h : ℕ) × IsLive s h × (0 < face_of s h) × (LiesInFace at s (face_of s h) p ⊎ (HasEdge at s p (face_of s h) ⊎ HasCorner at s p (face_of s h))))
    ⊎ ((e : ℕ) × IsLive s e × (face_of s e ≡ 0) × IsLeftOf at s p e)

-- the point a comes before b, from left to right, and upwards where both have one x
abbrev pub IsBefore : Point → Point → Type 0
IsBefore a b = (a.x <ℤ b.x) ⊎ ((a.x ≡ b.x) × (a.y <ℤ b.y))
