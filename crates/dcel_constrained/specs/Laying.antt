-- A segment on its way to be one of marked edges.
use Rattle.std.specs.Prelude.{◌≡◌, ◌⊎◌, ◌↔◌, ℕ, ◌<◌, ◌/◌, Bool, IsTrue, List, [], Option, None, Some}
use Rattle.dcel_predicates.specs.declared.point.Point.{Point}
use Rattle.dcel_maps.specs.Shapes.{IsMesh, Mesh}
use Rattle.dcel_maps.specs.Walking.{Leads}
use Rattle.dcel_plane.specs.Plane.{point_at}
use Rattle.dcel_planar.specs.Growing.{HasHull}
use Rattle.dcel_regions.specs.Marked.{IsMarked}
use Rattle.dcel_regions.specs.declared.mark.Mark.{Mark}
use Rattle.dcel_constrained.specs.Constraints.{HasConstraint, IsFreeWay, KeepsMarked, MarksOnly}
use Rattle.dcel_constrained.specs.Meeting.{LiesBetweenEnds}
use Rattle.dcel_constrained.specs.Soundness.{IsConstrained, MarksAnother}
use Rattle.dcel_constrained.specs.declared.segments.chains.Part.{Part}
use Rattle.dcel_constrained.specs.declared.segments.chains.Part.TheVariants.{Between, Blocked, Laid}

module _ {DE F : Type 0} where
  -- the vertices stand where they stood, there are as many edges, the marked ones still are, and another one is marked only if it joins v and w
  pub record MarksBetween (old new : Mesh Point DE Mark F) (v w : ℕ) : Type 0 where
    pub vertices : new.shape.vertices ≡ old.shape.vertices
    pub edges : new.shape.edges ≡ old.shape.edges
    pub points : new.vertex_data ≡ old.vertex_data
    pub keeps : KeepsMarked old new
    pub only : (u : ℕ) → IsMarked new u → IsMarked old u ⊎ ((h : ℕ) × Leads new.shape v w h × (h / 2 ≡ u))

  -- a marked edge joins v and w, the only one that may not have been marked
  pub record IsLaid (old new : Mesh Point DE Mark F) (v w : ℕ) (is_new : Bool) : Type 0 where
    pub half : ℕ
    pub leads : Leads new.shape v w half
    pub marked : IsMarked new (half / 2)
    pub only : (u : ℕ) → IsMarked new u → IsMarked old u ⊎ (half / 2 ≡ u)
    pub added : IsTrue is_new ↔ (¬ IsMarked old (half / 2))

  -- a marked edge joins v and w, and the segment crossed none; or a vertex lies between them, or it crosses one, and nothing has changed
  abbrev pub IsPart : Mesh Point DE Mark F → Mesh Point DE Mark F → ℕ → ℕ → Part → Type 0
  IsPart old new v w (Laid is_new) = IsLaid old new v w is_new × IsFreeWay old v w
  IsPart old new v w Blocked = (new ≡ old) × ¬ IsFreeWay old v w
  IsPart old new v w (Between y) = (new ≡ old) × (y < old.shape.vertices) × LiesBetweenEnds (point_at old) v w y

  -- the vertices stand where they stood, the marked edges still are, and others are marked only along the segment from v to w; a mesh in which
  -- none is has nothing to be looked at, and is as it was
  pub record LaysOnly (old new : Mesh Point DE Mark F) (due : List ℕ) (v w : ℕ) : Type 0 where
    pub mesh : IsMesh new
    pub sound : IsConstrained new due
    pub hull : HasHull new
    pub keeps : KeepsMarked old new
    pub only : MarksOnly old new v w
    pub points : new.vertex_data ≡ old.vertex_data
    pub edges : new.shape.edges ≡ old.shape.edges
    pub same : ¬ MarksAnother old new → (new ≡ old) × (due ≡ [])

  -- the segment from v to w is one of marked edges, and crossed none before; or it crosses one, and nothing has changed
  abbrev pub IsLaidIfFree : Mesh Point DE Mark F → Mesh Point DE Mark F → ℕ → ℕ → Option Bool → Type 0
  IsLaidIfFree old new v w None = (new ≡ old) × ¬ IsFreeWay old v w
  IsLaidIfFree old new v w (Some added) = HasConstraint new v w × (IsTrue added ↔ MarksAnother old new) × IsFreeWay old v w
