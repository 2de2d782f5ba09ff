-- Constraints: marked edges, what is kept of them, and segments that they lead along.
use Rattle.std.specs.Prelude.{◌≡◌, ◌⊎◌, ℕ, ◌<◌, ◌*◌, ◌+◌, ◌/◌, List, [], ◌∷◌}
use Rattle.dcel_predicates.specs.declared.point.Point.{Point}
use Rattle.dcel_maps.specs.Shapes.{Mesh, end_of, origin_of}
use Rattle.dcel_maps.specs.Words.{count_of}
use Rattle.dcel_plane.specs.Plane.{IsCircled, IsInner, point_at}
use Rattle.dcel_plane.specs.segments.Segments.{CanTurnEach, Crosses, LeadsAlong, flipped_each}
use Rattle.dcel_regions.specs.Marked.{IsMarked}
use Rattle.dcel_regions.specs.declared.mark.Mark.{Mark}
use Rattle.dcel_constrained.specs.Meeting.{LiesBetweenEnds}

-- the vertex x is an end of the segment from v to w, or lies between its ends
abbrev pub LiesOnSegment : (ℕ → Point) → ℕ → ℕ → ℕ → Type 0
LiesOnSegment at v w x = (x ≡ v) ⊎ ((x ≡ w) ⊎ LiesBetweenEnds at v w x)

module _ {DE F : Type 0} where
  -- each edge that breaks Delaunay's condition, and isn't marked, is in the list
  abbrev pub ListsFree : Mesh Point DE Mark F → List ℕ → Type 0
  ListsFree m list = (u : ℕ) → IsInner m.shape u → IsCircled (point_at m) m.shape u → ¬ IsMarked m u → 0 < count_of u list

  -- the segment from v to w crosses no marked edge
  abbrev pub IsFreeWay : Mesh Point DE Mark F → ℕ → ℕ → Type 0
  IsFreeWay m v w = (h : ℕ) → Crosses (point_at m) m.shape v w h → ¬ IsMarked m (h / 2)

  -- marked half edges lead along the segment from y to w, one after another
  abbrev pub IsMarkedWay : Mesh Point DE Mark F → ℕ → ℕ → List ℕ → Type 0
  IsMarkedWay m w y [] = y ≡ w
  IsMarkedWay m w y (h ∷ rest) = LeadsAlong (point_at m) m.shape y w h × IsMarked m (h / 2) × IsMarkedWay m w (end_of m.shape h) rest

  -- the segment from v to w is one of marked edges
  abbrev pub HasConstraint : Mesh Point DE Mark F → ℕ → ℕ → Type 0
  HasConstraint m v w = (list : List ℕ) × IsMarkedWay m w v list

  -- each marked edge is one still, between the same vertices
  pub record KeepsMarked (old new : Mesh Point DE Mark F) : Type 0 where
    pub marked : (u : ℕ) → IsMarked old u → IsMarked new u
    pub from : (u : ℕ) → IsMarked old u → origin_of new.shape (2 * u) ≡ origin_of old.shape (2 * u)
    pub to : (u : ℕ) → IsMarked old u → origin_of new.shape (2 * u + 1) ≡ origin_of old.shape (2 * u + 1)

  -- the edge u is a part of the segment from v to w
  pub record IsPartOf (m : Mesh Point DE Mark F) (v w u : ℕ) : Type 0 where
    pub from : LiesOnSegment (point_at m) v w (origin_of m.shape (2 * u))
    pub to : LiesOnSegment (point_at m) v w (origin_of m.shape (2 * u + 1))

  -- no other edge is marked than those that were, and parts of the segment from v to w
  abbrev pub MarksOnly : Mesh Point DE Mark F → Mesh Point DE Mark F → ℕ → ℕ → Type 0
  MarksOnly old new v w = (u : ℕ) → IsMarked new u → IsMarked old u ⊎ IsPartOf new v w u

  -- flips of edges that aren't marked, and nothing else, make the mesh `new` of `old`; the two triangles of each go round counterclockwise
  -- before and afterwards
  pub record TurnsFree (old new : Mesh Point DE Mark F) : Type 0 where
    pub turned : List ℕ
    pub can : CanTurnEach (point_at old) old turned
    pub is : new ≡ flipped_each old turned
    pub free : (u : ℕ) → 0 < count_of u turned → ¬ IsMarked old u
