-- Constraints over an insertion: a marked edge that the point lies on becomes two.
use Rattle.std.specs.Prelude.{◌≡◌, ℕ, ◌*◌, ◌/◌}
use Rattle.dcel_predicates.specs.declared.point.Point.{Point}
use Rattle.dcel_maps.specs.Shapes.{Mesh, end_of, origin_of}
use Rattle.dcel_regions.specs.Marked.{IsMarked}
use Rattle.dcel_regions.specs.declared.mark.Mark.{Mark}
use Rattle.dcel_constrained.specs.Constraints.{HasConstraint, IsPartOf, KeepsMarked}

module _ {DE F : Type 0} where
  -- each segment of marked edges is one of marked edges still
  abbrev pub KeepsConstraints : Mesh Point DE Mark F → Mesh Point DE Mark F → Type 0
  KeepsConstraints old new = (v w : ℕ) → HasConstraint old v w → HasConstraint new v w

  -- each marked edge is a part of one that was marked, whose half edge is h
  abbrev pub MarksParts : Mesh Point DE Mark F → Mesh Point DE Mark F → Type 0
  MarksParts old new =
      (u : ℕ) → IsMarked new u → (h : ℕ) × IsMarked old (h / 2) × IsPartOf new (origin_of old.shape h) (end_of old.shape h) u

  -- marked edges may have become two, one of which has the number, and nothing else is marked or freed
  pub record SplitsMarked (old new : Mesh Point DE Mark F) : Type 0 where
    pub marked : (u : ℕ) → IsMarked old u → IsMarked new u
    pub own : (u : ℕ) → IsMarked old u → IsPartOf new (origin_of old.shape (2 * u)) (end_of old.shape (2 * u)) u
    pub constraints : KeepsConstraints old new
    pub parts : MarksParts old new

  -- the same edges are marked, between the same vertices, which stand where they stood
  pub record StaysMarked (old new : Mesh Point DE Mark F) : Type 0 where
    pub keeps : KeepsMarked old new
    pub only : (u : ℕ) → IsMarked new u → IsMarked old u
    pub points : new.vertex_data ≡ old.vertex_data
