-- Edges that have to stay while a vertex is removed, none of whose own edges has to.
use Rattle.std.specs.Prelude.{◌≢◌, ◌↔◌, ℕ, ◌-◌, ◌/◌, Bool, List}
use Rattle.dcel_maps.specs.Renumbering.{moved}
use Rattle.dcel_maps.specs.Shapes.{Mesh}
use Rattle.dcel_maps.specs.Walking.{IsOutEdge, Leads}
use Rattle.dcel_predicates.specs.declared.point.Point.{Point}
use Rattle.dcel_planar.specs.Growing.{IsTriangleMesh}
use Rattle.dcel_planar.specs.Legalization.{HasToStay, ListsLoose}

module _ {DE UE F : Type 0} (stays : UE → Bool) where
  -- each inner face is a triangle that goes round counterclockwise, and each edge that is to be turned is in the list, if each was before
  pub record LeavesLegal (old new : Mesh Point DE UE F) (before after : List ℕ) : Type 0 where
    pub triangulated : IsTriangleMesh new
    pub open triangulated use *
    pub listed : ListsLoose stays old before → ListsLoose stays new after

  -- an edge that has to stay leads from the vertex a to the vertex b
  abbrev pub StaysBetween : Mesh Point DE UE F → ℕ → ℕ → Type 0
  StaysBetween m a b = (h : ℕ) × Leads m.shape a b h × HasToStay stays m (h / 2)

  -- an edge of the vertex v has to stay
  abbrev pub HasConstraintAt : Mesh Point DE UE F → ℕ → Type 0
  HasConstraintAt m v = (h : ℕ) × IsOutEdge m.shape v h × HasToStay stays m (h / 2)

  -- edges that have to stay lead between the same vertices as before
  abbrev pub KeepsStaying : Mesh Point DE UE F → Mesh Point DE UE F → Type 0
  KeepsStaying old new = (a b : ℕ) → StaysBetween old a b ↔ StaysBetween new a b

  -- the same of the vertices other than v
  abbrev pub KeepsOthersStaying : Mesh Point DE UE F → Mesh Point DE UE F → ℕ → Type 0
  KeepsOthersStaying old new v = (a b : ℕ) → a ≢ v → b ≢ v → StaysBetween old a b ↔ StaysBetween new a b

  -- the same once v is gone, and the last vertex has its number
  abbrev pub LosesNoneStaying : Mesh Point DE UE F → Mesh Point DE UE F → ℕ → Type 0
  LosesNoneStaying old new v =
      (a b : ℕ) → a ≢ v → b ≢ v
      → StaysBetween old a b ↔ StaysBetween new (moved (old.shape.vertices - 1) v a) (moved (old.shape.vertices - 1) v b)
