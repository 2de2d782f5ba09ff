-- What a constrained triangulation is, whether all its edges have been looked at or not.
use Rattle.std.specs.Prelude.{◌≡◌, ◌≢◌, ℕ, ◌<◌, ◌*◌, ◌+◌, ◌/◌, List, count_by}
use Rattle.dcel_predicates.specs.declared.point.Point.{Point}
use Rattle.dcel_maps.specs.Removals.{Closed}
use Rattle.dcel_maps.specs.Shapes.{Mesh, origin_of}
use Rattle.dcel_maps.specs.Triangulations.{AllTriangles}
use Rattle.dcel_maps.specs.Walking.{Leads}
use Rattle.dcel_plane.specs.Plane.{IsCircled, IsInner, TrianglesTurnLeft, point_at}
use Rattle.dcel_planar.specs.Growing.{IsJoined}
use Rattle.dcel_regions.specs.Marked.{IsMarked, is_constraint}
use Rattle.dcel_regions.specs.declared.mark.Mark.{Mark}
use Rattle.dcel_constrained.specs.Constraints.{IsFreeWay, ListsFree}

module _ {DE F : Type 0} where
  -- no removal is open, the vertices are joined, the inner faces are triangles that go round counterclockwise, and each edge between two of
  -- them that isn't marked, and has a corner inside the circle of the other side, is in the list
  pub record IsConstrained (m : Mesh Point DE Mark F) (due : List ℕ) : Type 0 where
    pub closed : m.shape.removal ≡ Closed
    pub joined : IsJoined m.shape
    pub triangles : AllTriangles m.shape
    pub plane : TrianglesTurnLeft (point_at m) m.shape
    pub listed : ListsFree m due

  -- an edge between two triangles, one of which has a corner inside the circle of the other one, is marked
  abbrev pub IsConstrainedDelaunay : Mesh Point DE Mark F → Type 0
  IsConstrainedDelaunay m = (u : ℕ) → IsInner m.shape u → ¬ IsMarked m u → ¬ IsCircled (point_at m) m.shape u

  -- v and w are vertices, and no marked edge crosses the segment between them
  pub record CanAdd (m : Mesh Point DE Mark F) (v w : ℕ) : Type 0 where
    pub from : v < m.shape.vertices
    pub to : w < m.shape.vertices
    pub free : IsFreeWay m v w

  -- a marked edge leads from v to w
  abbrev pub AreConstrained : Mesh Point DE Mark F → ℕ → ℕ → Type 0
  AreConstrained m v w = (h : ℕ) × Leads m.shape v w h × IsMarked m (h / 2)

  -- how many edges are marked
  abbrev pub constraint_count : Mesh Point DE Mark F → ℕ
  constraint_count m = count_by is_constraint m.undirected_data

  -- some edge is marked that wasn't
  abbrev pub MarksAnother : Mesh Point DE Mark F → Mesh Point DE Mark F → Type 0
  MarksAnother old new = (u : ℕ) × IsMarked new u × ¬ IsMarked old u

  -- no other edge is marked than those that were, and each of them still is but the edge e, between the same vertices
  pub record MarksAllBut (old new : Mesh Point DE Mark F) (e : ℕ) : Type 0 where
    pub no_other : (u : ℕ) → IsMarked new u → IsMarked old u
    pub marked : (u : ℕ) → u ≢ e → IsMarked old u → IsMarked new u
    pub from : (u : ℕ) → IsMarked new u → origin_of new.shape (2 * u) ≡ origin_of old.shape (2 * u)
    pub to : (u : ℕ) → IsMarked new u → origin_of new.shape (2 * u + 1) ≡ origin_of old.shape (2 * u + 1)

  -- no edge is marked
  abbrev pub HasNoConstraint : Mesh Point DE Mark F → Type 0
  HasNoConstraint m = (u : ℕ) → ¬ IsMarked m u
