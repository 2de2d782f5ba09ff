-- What a refinement leaves, and what it returns.
use Rattle.std.specs.Prelude.{◌≡◌, ◌<◌, ◌≤◌, ◌+◌, ◌-◌, ◌++◌, ℕ, List, length, slice_get, slice_index, Some, ◌*◌}
use Rattle.dcel_predicates.specs.declared.point.Point.{Point}
use Rattle.dcel_maps.specs.Shapes.{Mesh, face_count}
use Rattle.dcel_regions.specs.Regions.{IsReached}
use Rattle.dcel_regions.specs.declared.mark.Mark.{Mark}
use Rattle.dcel_refinement.specs.Quality.{HasExceptions, IsGood}
use Rattle.dcel_refinement.specs.declared.parameters.RefinementParameters.{RefinementParameters}
use Rattle.dcel_refinement.specs.declared.refining.Refined.{Refined}
use Rattle.dcel_refinement.specs.declared.refining.Refined.TheVariants.{Done, Stopped}

-- the list has an odd number in this place
abbrev pub HasOdd : List ℕ → ℕ → Type 0
HasOdd numbers i = (half : ℕ) × (slice_get numbers i ≡ Some (2 * half + 1))

module _ {DE F : Type 0} where
  -- the numbers are those of the faces: how many constraints are at least crossed on a way from the outer face to each
  pub record AreDepths (m : Mesh Point DE Mark F) (numbers : List ℕ) : Type 0 where
    pub count : length numbers ≡ face_count m.shape
    pub reached : (f : ℕ) → f < face_count m.shape → IsReached m f (slice_index numbers f)
    pub least : (f k : ℕ) → IsReached m f k → slice_index numbers f ≤ k

  -- the vertices keep their points, and at most so many come after them
  pub record AddsAtMost (old new : Mesh Point DE Mark F) (most : ℕ) : Type 0 where
    pub added : List Point
    pub points : new.vertex_data ≡ old.vertex_data ++ added
    pub few : length added ≤ most

  -- the result says whether all is good, how many vertices there are beyond those of before, and how many exceptions
  abbrev pub ReportsOf : Mesh Point DE Mark F → RefinementParameters → ℕ → Refined → Type 0
  ReportsOf m p before (Done added excepted) = IsGood m p × (added ≡ m.shape.vertices - before) × HasExceptions m p excepted
  ReportsOf m p before (Stopped added excepted) = ¬ IsGood m p × (added ≡ m.shape.vertices - before) × HasExceptions m p excepted

  abbrev pub Reports : Mesh Point DE Mark F → Mesh Point DE Mark F → RefinementParameters → Refined → Type 0
  Reports old new p = ReportsOf new p old.shape.vertices
