-- Constrained triangulations refined.
use Rattle.dcel_constrained.specs.Constrained.{marked_mesh}
use Rattle.dcel_constrained.specs.Splitting.{SplitsMarked}
use Rattle.dcel_delaunay.specs.Bulk.{FailsToInsertAll}
use Rattle.dcel_planar.specs.declared.errors.InsertionError.{InsertionError}
use Rattle.dcel_refinement.specs.Quality.{HasExceptions, IsGood}
use Rattle.dcel_refinement.specs.Refined.{AddsAtMost}
use Rattle.dcel_refinement.specs.declared.parameters.RefinedFaces.{RefinedFaces}
use Rattle.dcel_refinement.specs.declared.parameters.RefinedFaces.TheVariants.{All, Inside}
use Rattle.dcel_refinement.specs.declared.parameters.RefinementParameters.{RefinementParameters}
use Rattle.dcel_triangulations.specs.Statuses.{insertion_status}
use Rattle.dcel_triangulations.specs.constrained.Calls.{IsWhole}
use Rattle.dcel_triangulations.specs.constrained.Held.{State}
use Rattle.dcel_triangulations.specs.declared.constrained.refining.DcelRefinement.{DcelRefinement}
use Rattle.std.specs.Prelude.{◌≡◌, ◌↔◌, ◌+◌, ◌-◌, ◌*◌, ◌^◌, ℕ, ℤ, Bool, IsTrue, Option, None, Some, nat_lt, pos, if◌then◌else◌}

-- twice the largest area, by its upper and lower 64 bits: from 2^127 on any area will do
abbrev pub area_given : ℕ → ℕ → Option ℤ
area_given high low = if nat_lt high (2 ^ 63) then Some (pos (high * 2 ^ 64 + low)) else None

-- the triangles that are refined: those inside of the constraints, or all
abbrev pub faces_given : Bool → RefinedFaces
faces_given inside = if inside then Inside else All

-- the parameters, as C gives them
abbrev pub parameters_given : DcelRefinement → RefinementParameters
parameters_given given = record {
  angle = record { rise = given.rise; run = given.run };
  max_doubled_area = area_given given.max_doubled_area_high given.max_doubled_area_low;
  max_additional_vertices = given.max_additional_vertices;
  faces = faces_given given.inside;
}

-- vertices are added, no more than allowed, and constraints stay, in parts; the result is how many were added, how many exceptions there are, and
-- whether each corner is as wanted
pub record RefinesTriangulation (given : DcelRefinement) (added excepted : ℕ) (reached : Bool) (old new : State) : Type 0 where
  pub adds : AddsAtMost (marked_mesh old) (marked_mesh new) given.max_additional_vertices
  pub splits : SplitsMarked (marked_mesh old) (marked_mesh new)
  pub whole : IsWhole new
  pub counted : added ≡ (marked_mesh new).shape.vertices - (marked_mesh old).shape.vertices
  pub excepts : HasExceptions (marked_mesh new) (parameters_given given) excepted
  pub told : IsTrue reached ↔ IsGood (marked_mesh new) (parameters_given given)

-- memory or numbers ran out, and vertices added before that stay
pub record FailsToRefine (given : DcelRefinement) (status : ℕ) (old new : State) : Type 0 where
  pub error : InsertionError
  pub why : status ≡ insertion_status error
  pub fails : FailsToInsertAll old.planar new.planar error
  pub adds : AddsAtMost (marked_mesh old) (marked_mesh new) given.max_additional_vertices
  pub splits : SplitsMarked (marked_mesh old) (marked_mesh new)
