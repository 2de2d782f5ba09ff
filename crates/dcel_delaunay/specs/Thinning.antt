-- Edges of a vertex flipped, one after another.
use Rattle.std.specs.Prelude.{◌≡◌, ℕ, ◌-◌, ◌/◌, ◌++◌, ◌<◌, ◌≤◌, Bool, List, length}
use Rattle.dcel_maps.specs.edits.Fill.{edges_at}
use Rattle.dcel_maps.specs.Shapes.{IsLive, IsMesh, Mesh, Shape, face_of, origin_of}
use Rattle.dcel_maps.specs.Walking.{out_edges_of}
use Rattle.dcel_maps.specs.Words.{count_of}
use Rattle.dcel_predicates.specs.declared.point.Point.{Point}
use Rattle.dcel_planar.specs.Corners.{StartsOutside}
use Rattle.dcel_planar.specs.Growing.{HasHull, Keeps}
use Rattle.dcel_delaunay.specs.Removing.{IsInnerVertex}
use Rattle.dcel_delaunay.specs.Staying.{HasConstraintAt, KeepsStaying, LeavesLegal}

-- the list has each side of each inner face at the vertex v
abbrev pub ListsAround : Shape → ℕ → List ℕ → Type 0
ListsAround s v list = (h k : ℕ) → IsLive s h → origin_of s h ≡ v → 0 < face_of s h → IsLive s k → face_of s k ≡ face_of s h → 0 < count_of (k / 2) list

module _ {DE UE F : Type 0} where
  -- the list, and the edges of v after it
  abbrev pub with_spokes : Mesh Point DE UE F → ℕ → List ℕ → List ℕ
  with_spokes m v list = list ++ edges_at m v

  -- behind so many items are places for the edges of v
  abbrev pub HasPlaces : Mesh Point DE UE F → ℕ → ℕ → ℕ → Type 0
  HasPlaces m v len capacity = length (out_edges_of m v) ≤ capacity - len

module _ {DE UE F : Type 0} (stays : UE → Bool) where
  -- edges of the vertex v are flipped, and if the first list has each that is to be turned, so does the other one then
  pub record IsThinned (old new : Mesh Point DE UE F) (v : ℕ) (first list : List ℕ) : Type 0 where
    pub mesh : IsMesh new
    pub below : v < new.shape.vertices
    pub keeps : Keeps old new
    pub edges : new.shape.edges ≡ old.shape.edges
    pub sound : LeavesLegal stays old new first list
    pub hull : HasHull new
    pub inside : IsInnerVertex old.shape v → IsInnerVertex new.shape v
    pub outside : (h : ℕ) → StartsOutside old v h → StartsOutside new v h
    pub staying : KeepsStaying stays old new
    pub loose : ¬ HasConstraintAt stays new v

  -- the same, where the edges of v aren't listed, and the sides of its triangles are
  pub record IsThinning (old new : Mesh Point DE UE F) (v : ℕ) (first list : List ℕ) : Type 0 where
    pub thinned : IsThinned old new v first (with_spokes new v list)
    pub around : ListsAround new.shape v (with_spokes new v list)
