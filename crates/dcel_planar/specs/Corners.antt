-- Corners of the outer face, while the hull is closed round the last vertex.
use Rattle.std.specs.Prelude.{◌≡◌, ◌≤◌, ◌+◌, ◌^◌, ℕ, pos, ◌≤ℤ◌}
use Rattle.dcel_maps.specs.Shapes.{Mesh, IsLive, end_of, face_of, next_of, origin_of, prev_of}
use Rattle.dcel_plane.specs.covering.Covering.{IsConvex}
use Rattle.dcel_plane.specs.Plane.{point_at}
use Rattle.dcel_plane.specs.star.Star.{HasEmptyCirclesBut}
use Rattle.dcel_predicates.specs.declared.point.Point.{Point}
use Rattle.dcel_predicates.specs.Determinants.{orient2d_of}
use Rattle.dcel_planar.specs.Growing.{IsOpen}
use Rattle.dcel_planar.specs.Places.{HasLeft}

module _ {DE UE F : Type 0} where
  -- the half edge after h ends on the left of h
  abbrev pub TurnsIn : Mesh Point DE UE F → ℕ → Type 0
  TurnsIn m h = HasLeft m (point_at m (end_of m.shape (next_of m.shape h))) h

  -- h lies on the outer face and starts at the vertex t
  pub record StartsOutside (m : Mesh Point DE UE F) (t h : ℕ) : Type 0 where
    pub live : IsLive m.shape h
    pub outer : face_of m.shape h ≡ 0
    pub start : origin_of m.shape h ≡ t

  -- the outer face doesn't turn in at the corner after the vertex t, nor at the one before it
  abbrev pub IsClosedAfter : Mesh Point DE UE F → ℕ → Type 0
  IsClosedAfter m t = (h : ℕ) → IsLive m.shape h → face_of m.shape h ≡ 0 → origin_of m.shape h ≡ t
      → orient2d_of (point_at m (end_of m.shape h)) (point_at m (end_of m.shape (next_of m.shape h))) (point_at m t) ≤ℤ pos 0

  abbrev pub IsClosedBefore : Mesh Point DE UE F → ℕ → Type 0
  IsClosedBefore m t = (h : ℕ) → IsLive m.shape h → face_of m.shape h ≡ 0 → end_of m.shape h ≡ t
      → orient2d_of (point_at m (origin_of m.shape (prev_of m.shape h))) (point_at m (origin_of m.shape h)) (point_at m t) ≤ℤ pos 0

  -- what triangles closed at the hull leave: a hull that is open is still open, with the corners closed that were, and with circles empty but for the
  -- last vertex if they were; a convex one is as it was
  pub record GoesOnClosing (old new : Mesh Point DE UE F) : Type 0 where
    pub open_still : (t : ℕ) → IsOpen old t → IsOpen new t
    pub after : (t : ℕ) → IsOpen old t → IsClosedAfter old t → IsClosedAfter new t
    pub before : (t : ℕ) → IsOpen old t → IsClosedBefore old t → IsClosedBefore new t
    pub convex : IsConvex (point_at old) old.shape → new ≡ old
    pub circles : (t : ℕ) → IsOpen old t → HasEmptyCirclesBut (point_at old) old.shape t → HasEmptyCirclesBut (point_at new) new.shape t

  -- one triangle is closed between the outer half edge e and the next one, and h is on the outer face in the place of both
  pub record IsClosedAt (old new : Mesh Point DE UE F) (e h : ℕ) : Type 0 where
    pub live : IsLive new.shape h
    pub outer : face_of new.shape h ≡ 0
    pub start : origin_of new.shape h ≡ origin_of old.shape e
    pub end : end_of new.shape h ≡ end_of old.shape (next_of old.shape e)
    pub edges : new.shape.edges ≡ old.shape.edges + 1
    pub few : new.shape.edges ≤ 2 ^ 31
