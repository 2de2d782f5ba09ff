-- The quality of a constrained triangulation: angles and areas of its triangles.
use Rattle.std.specs.Prelude.{◌≡◌, ◌⊎◌, ℕ, ◌<◌, ◌≤◌, ◌+◌, ◌*◌, ◌/◌, Bool, true, List, length, slice_get, Option, None, Some, pos, ℤ, ◌*ℤ◌, ◌≤ℤ◌}
use Rattle.dcel_predicates.specs.declared.point.Point.{Point}
use Rattle.dcel_predicates.specs.Determinants.{orient2d_of}
use Rattle.dcel_maps.specs.Shapes.{IsLive, Mesh, end_of, face_of, origin_of, prev_of}
use Rattle.dcel_maps.specs.Words.{count_of}
use Rattle.dcel_plane.specs.Plane.{point_at}
use Rattle.dcel_plane.specs.covering.Covering.{dot}
use Rattle.dcel_regions.specs.Marked.{IsMarked}
use Rattle.dcel_regions.specs.Regions.{IsReached}
use Rattle.dcel_regions.specs.declared.mark.Mark.{Mark}
use Rattle.dcel_refinement.specs.declared.parameters.AngleLimit.{AngleLimit}
use Rattle.dcel_refinement.specs.declared.parameters.RefinedFaces.{RefinedFaces}
use Rattle.dcel_refinement.specs.declared.parameters.RefinedFaces.TheVariants.{All, Inside}
use Rattle.dcel_refinement.specs.declared.parameters.RefinementParameters.{RefinementParameters}

-- the angle at p from the way to a to the way to b is at least the limit: the quotient of cosine and sine, `dot` and `orient2d`, is at most that of
-- the limit
abbrev pub IsWideAt : AngleLimit → Point → Point → Point → Type 0
IsWideAt limit p a b = (pos limit.rise *ℤ dot a b p) ≤ℤ (pos limit.run *ℤ orient2d_of p a b)

-- the triangle has at most this area, of which twice the number is given; without a number any area will do
abbrev pub HasAtMost : Option ℤ → Point → Point → Point → Type 0
HasAtMost None p a b = Unit {0}
HasAtMost (Some most) p a b = orient2d_of p a b ≤ℤ most

-- the flag of the face f is set: each inner face has one, in the order of their numbers
abbrev pub IsFlagged : List Bool → ℕ → Type 0
IsFlagged flags f = (i : ℕ) × (f ≡ i + 1) × (slice_get flags i ≡ Some true)

module _ {DE F : Type 0} where
  -- the least number of constraints on a way from the outer face to the face f is odd
  pub record IsInside (m : Mesh Point DE Mark F) (f : ℕ) : Type 0 where
    pub half : ℕ
    pub reached : IsReached m f (2 * half + 1)
    pub least : (k : ℕ) → IsReached m f k → 2 * half + 1 ≤ k

  -- the face f is one of those that are refined
  abbrev pub IsRefined : Mesh Point DE Mark F → RefinedFaces → ℕ → Type 0
  IsRefined m All f = 0 < f
  IsRefined m Inside f = IsInside m f

  -- the half edge h and the one before it are constraints: an angle of the input
  abbrev pub IsGivenCorner : Mesh Point DE Mark F → ℕ → Type 0
  IsGivenCorner m h = IsMarked m (h / 2) × IsMarked m (prev_of m.shape h / 2)

  -- the corner at which the half edge h starts is wide enough, or given, and its triangle small enough
  pub record IsGoodAt (m : Mesh Point DE Mark F) (p : RefinementParameters) (h : ℕ) : Type 0 where
    pub angle : IsWideAt p.angle (point_at m (origin_of m.shape h)) (point_at m (end_of m.shape h)) (point_at m (origin_of m.shape (prev_of m.shape h))) ⊎ IsGivenCorner m h
    pub area : HasAtMost p.max_doubled_area (point_at m (origin_of m.shape h)) (point_at m (end_of m.shape h)) (point_at m (origin_of m.shape (prev_of m.shape h)))

  -- each corner of each refined face is
  abbrev pub IsGood : Mesh Point DE Mark F → RefinementParameters → Type 0
  IsGood m p = (h : ℕ) → IsLive m.shape h → IsRefined m p.faces (face_of m.shape h) → IsGoodAt m p h

  -- each corner of each inner face whose flag is set is
  abbrev pub AreGood : Mesh Point DE Mark F → List Bool → RefinementParameters → Type 0
  AreGood m flags p = (h : ℕ) → IsLive m.shape h → IsFlagged flags (face_of m.shape h) → IsGoodAt m p h

  -- an exception: the corner at which the half edge h starts is one of a refined face, and given, and smaller than the limit
  pub record IsExcepted (m : Mesh Point DE Mark F) (p : RefinementParameters) (h : ℕ) : Type 0 where
    pub live : IsLive m.shape h
    pub refined : IsRefined m p.faces (face_of m.shape h)
    pub given : IsGivenCorner m h
    pub narrow : ¬ IsWideAt p.angle (point_at m (origin_of m.shape h)) (point_at m (end_of m.shape h)) (point_at m (origin_of m.shape (prev_of m.shape h)))

  -- there are so many exceptions: the half edges of the list, each of which stands in it once
  pub record HasExceptions (m : Mesh Point DE Mark F) (p : RefinementParameters) (many : ℕ) : Type 0 where
    pub list : List ℕ
    pub once : (h : ℕ) → IsExcepted m p h → count_of h list ≡ 1
    pub no_other : (h : ℕ) → 0 < count_of h list → IsExcepted m p h
    pub counted : many ≡ length list
