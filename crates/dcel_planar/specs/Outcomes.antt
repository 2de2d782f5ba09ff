-- What calls leave of a planar mesh. Of a call that fails there is a row for each error.
use Rattle.std.specs.Prelude.{◌≡◌, ◌⊎◌, ◌++◌, ℕ, [], ◌∷◌}
use Rattle.dcel_maps.specs.Conditions.{HasRoom}
use Rattle.dcel_predicates.specs.declared.point.Point.{Point}
use Rattle.dcel_planar.specs.Growing.{Gains}
use Rattle.dcel_planar.specs.Leaving.{IsSame}
use Rattle.dcel_planar.specs.Places.{HasPoint}
use Rattle.dcel_planar.specs.declared.errors.InsertionError.{InsertionError}
use Rattle.dcel_planar.specs.declared.errors.InsertionError.TheVariants.{OutOfMemory, OutOfRange, TooManyPoints, Unfinished}
use Rattle.dcel_planar.specs.declared.planar.PlanarMesh.{PlanarMesh}

module _ {UE A : Type 0} where
  -- no edge is still to be looked at
  abbrev pub IsWholeMesh : PlanarMesh UE A → Type 0
  IsWholeMesh m = m.due.items ≡ []

  -- the vertices keep their points, and a whole mesh is as it was
  pub record KeepsWhole (old new : PlanarMesh UE A) : Type 0 where
    pub points : new.dcel.vertex_data ≡ old.dcel.vertex_data
    pub same : IsWholeMesh old → new.dcel ≡ old.dcel

  -- the vertex v has the point, as before, or as a new vertex; the others keep theirs
  pub record HasInserted (old new : PlanarMesh UE A) (p : Point) (v : ℕ) : Type 0 where
    pub has : HasPoint new.dcel p v
    pub points : (new.dcel.vertex_data ≡ old.dcel.vertex_data) ⊎ (new.dcel.vertex_data ≡ old.dcel.vertex_data ++ p ∷ [])

  -- `put_at` fails
  abbrev pub FailsToPut : PlanarMesh UE A → PlanarMesh UE A → Point → InsertionError → Type 0
  FailsToPut old new p OutOfRange = ⊥
  FailsToPut old new p TooManyPoints = ¬ HasRoom old.dcel.shape 1 3 2 × IsSame old new
  FailsToPut old new p OutOfMemory = IsSame old new
  FailsToPut old new p Unfinished = Gains old.dcel new.dcel p old.dcel.shape.vertices × ¬ IsWholeMesh new

  -- an insertion into a triangulation fails
  abbrev pub FailsToInsert : PlanarMesh UE A → PlanarMesh UE A → Point → InsertionError → Type 0
  FailsToInsert old new p OutOfRange = ⊥
  FailsToInsert old new p TooManyPoints = ¬ HasRoom new.dcel.shape 1 3 2 × KeepsWhole old new × IsWholeMesh new
  FailsToInsert old new p OutOfMemory = KeepsWhole old new × (IsWholeMesh old → IsWholeMesh new)
  FailsToInsert old new p Unfinished = (new.dcel.vertex_data ≡ old.dcel.vertex_data ++ p ∷ []) × ¬ IsWholeMesh new
